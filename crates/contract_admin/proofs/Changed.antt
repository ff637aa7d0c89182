-- States in which one contract, a code or the counters are changed.
use Rattle.std.proofs.Common.{◌≡◌, ℕ, ◌+◌, ◌%◌, ◌^◌, Bool, true, false, cond, List, Option, Some, None, refl, sym, ap, ◌∙◌, subst}
use Rattle.std.specs.Option.{IfSome}
use Rattle.std.specs.Ordering.{nat_cmp, eq_by_cmp}
use Rattle.std.specs.Cmp.{Equal-is, nat_cmp_total}
use Rattle.std.specs.Cmp.Lexicographic.{slice_cmp, nat_list_cmp_total}
use Rattle.std.specs.FinMap.{FinMap, get, insert, get-insert}
use Rattle.std.proofs.lemmas.Map.Lookups.{exact_bytes}
use Rattle.chain_records.specs.declared.record.Counters.{Counters}
use Rattle.chain_records.specs.Changes.{with_code}
use Rattle.chain_records.specs.Keys.{IsAddress}
use Rattle.chain_records.specs.Records.{PlainContract}
use Rattle.chain_records.specs.State.{Code, State, addressed_cmp}
use Rattle.state_records.specs.Records.{with_contract, with_counters}
use Rattle.contract_admin.specs.Administration.{label_bad, unless, label_fits, code_refusal, taken_refusal, create_refusal, change_refusal, changed_in, with_changed}
use Rattle.contract_admin.specs.Effects.{IsCreated, IsInstanceTaken, IsAdminSet, IsCodeSet}
use Rattle.contract_admin.specs.Lawful.{IsLawfulContract, HasLawfulContracts}
use Rattle.contract_admin.proofs.Refused.{first_none, later_none, neither, code_found}

-- ---- lawful contracts

one_written : (taken : Bool) (c d : PlainContract) (o : Option PlainContract) → cond taken (Some c) o ≡ Some d → (P : Type 0) → (taken ≡ true → c ≡ d → P) → (o ≡ Some d → P) → P
one_written true c d o e P here else = here refl cc
one_written false c d o e P here else = else e

pub lawful_with : (s : State) (addr : List ℕ) (c : PlainContract) → IsAddress addr → IsLawfulContract s c → HasLawfulContracts s → HasLawfulContracts (with_contract s addr c)
lawful_with s addr c is_address is lawful = record { contracts = contracts; storage = lawful.storage }
  where
    contracts : (other : List ℕ) (d : PlainContract) → get (insert s.contracts addr c) other ≡ Some d → IsAddress other × IsLawfulContract (with_contract s addr c) d
    contracts other d found =
        one_written (eq_by_cmp (slice_cmp nat_cmp) other addr) c d (get s.contracts other) (sym (get-insert nat_list_cmp_total s.contracts addr c other) ∙ found) (IsAddress other × IsLawfulContract (with_contract s addr c) d)
        (λ same it.
        let at : other ≡ addr = exact_bytes other addr ((Equal-is (slice_cmp nat_cmp other addr)).0 same) in
        (subst IsAddress (sym at) is_address, subst (IsLawfulContract (with_contract s addr c)) it (record { code = is.code; creator = is.creator; admin = is.admin })))
        (λ had. let was = lawful.contracts other d had in (was.0, record { code = was.1.code; creator = was.1.creator; admin = was.1.admin }))

pub lawful_counted : (s : State) (c : Counters) → HasLawfulContracts s → HasLawfulContracts (with_counters s c)
lawful_counted s c lawful = record {
  contracts = λ addr d found. let is = lawful.contracts addr d found in (is.0, record { code = is.1.code; creator = is.1.creator; admin = is.1.admin });
  storage = lawful.storage;
}

one_more : (taken : Bool) (code had : Code) (o : Option Code) → o ≡ Some had → (found : Code) × (cond taken (Some code) o ≡ Some found)
one_more true code had o is = (code, refl)
one_more false code had o is = (had, is)

pub lawful_stored : (s : State) (code : Code) → HasLawfulContracts s → HasLawfulContracts (with_code s code)
lawful_stored s code lawful = record { contracts = contracts; storage = lawful.storage }
  where
    stays : (id : ℕ) → ((had : Code) × (get s.codes id ≡ Some had)) → (found : Code) × (get (insert s.codes s.counters.next_code code) id ≡ Some found)
    stays id had =
        let more = one_more (eq_by_cmp nat_cmp id s.counters.next_code) code had.0 (get s.codes id) had.1 in
        (more.0, get-insert nat_cmp_total s.codes s.counters.next_code code id ∙ more.1)

    contracts : (addr : List ℕ) (d : PlainContract) → get s.contracts addr ≡ Some d → IsAddress addr × IsLawfulContract (with_code s code) d
    contracts addr d found = let is = lawful.contracts addr d found in (is.0, record { code = stays d.code_id is.1.code; creator = is.1.creator; admin = is.1.admin })

-- ---- a contract that is made

pub created : (s : State) (addr : List ℕ) (c d : PlainContract) → IsAddress addr → IsAddress c.creator → IfSome c.admin IsAddress → d ≡ c → HasLawfulContracts s → create_refusal s addr c ≡ None → IsCreated s addr c (with_contract s addr d)
created s addr c d is_address creator admin same lawful none =
    let rest = later_none (unless (label_fits c.label) label_bad) _ none in
    let code = code_found s c.code_id (first_none (code_refusal s c.code_id) (taken_refusal s addr) rest) in
    let made : IsCreated s addr c (with_contract s addr c) = record { taken = none; state = refl; lawful = lawful_with s addr c is_address (record { code = code; creator = creator; admin = admin }) lawful } in
    subst (λ (x : PlainContract). IsCreated s addr c (with_contract s addr x)) (sym same) made

-- ---- an instance's number

pub numbered : (s : State) (given next : Counters) (id : ℕ) → given ≡ s.counters → id ≡ given.next_instance → next ≡ record given { next_instance = (given.next_instance + 1) % 2 ^ 64 } → HasLawfulContracts s → IsInstanceTaken s id (with_counters s next)
numbered s given next id is first then lawful =
    let counters : next ≡ record s.counters { next_instance = (s.counters.next_instance + 1) % 2 ^ 64 } = then ∙ ap (λ (c : Counters). record c { next_instance = (c.next_instance + 1) % 2 ^ 64 }) is in
    record {
      next = first ∙ ap (λ (c : Counters). c.next_instance) is;
      state = ap (with_counters s) counters;
      lawful = lawful_counted s next lawful;
    }

-- ---- a contract that is changed

changed_to : (s : State) (addr : List ℕ) (change : PlainContract → PlainContract) (c : PlainContract) → Some c ≡ get s.contracts addr → with_contract s addr (change c) ≡ with_changed s addr change
changed_to s addr change c there = ap (changed_in s addr change) there

pub has_admin : (s : State) (sender addr : List ℕ) (admin : Option (List ℕ)) (c d : PlainContract) → IfSome admin IsAddress → d ≡ record c { admin = admin } → HasLawfulContracts s → (Some c ≡ get s.contracts addr) × (change_refusal s sender addr ≡ None)
    → IsAdminSet s sender addr admin (with_contract s addr d)
has_admin s sender addr admin c d is_address same lawful found =
    let was = lawful.contracts addr c (sym found.0) in
    let e : PlainContract = record c { admin = admin } in
    let has : IsAdminSet s sender addr admin (with_contract s addr e) = record {
      taken = found.1;
      state = changed_to s addr (λ x. record x { admin = admin }) c found.0;
      lawful = lawful_with s addr e was.0 (record { code = was.1.code; creator = was.1.creator; admin = is_address }) lawful;
    } in
    subst (λ (x : PlainContract). IsAdminSet s sender addr admin (with_contract s addr x)) (sym same) has

pub migrated : (s : State) (sender addr : List ℕ) (id : ℕ) (c d : PlainContract) → d ≡ record c { code_id = id } → HasLawfulContracts s → (Some c ≡ get s.contracts addr) × (change_refusal s sender addr ≡ None) × (code_refusal s id ≡ None)
    → IsCodeSet s sender addr id (with_contract s addr d)
migrated s sender addr id c d same lawful found =
    let was = lawful.contracts addr c (sym found.0) in
    let e : PlainContract = record c { code_id = id } in
    let is : IsCodeSet s sender addr id (with_contract s addr e) = record {
      taken = neither (change_refusal s sender addr) (code_refusal s id) found.1 found.2;
      state = changed_to s addr (λ x. record x { code_id = id }) c found.0;
      lawful = lawful_with s addr e was.0 (record { code = code_found s id found.2; creator = was.1.creator; admin = was.1.admin }) lawful;
    } in
    subst (λ (x : PlainContract). IsCodeSet s sender addr id (with_contract s addr x)) (sym same) is

-- ---- another state

pub lawful_same : (s t : State) → ((id : ℕ) (code : Code) → get s.codes id ≡ Some code → (other : Code) × (get t.codes id ≡ Some other)) → t.contracts ≡ s.contracts → t.storage ≡ s.storage → HasLawfulContracts s → HasLawfulContracts t
lawful_same s t codes same also lawful = record {
  contracts = λ addr d found.
      let is = lawful.contracts addr d (sym (ap (λ (m : FinMap (slice_cmp nat_cmp) PlainContract). get m addr) same) ∙ found) in
      (is.0, record { code = codes d.code_id is.1.code.0 is.1.code.1; creator = is.1.creator; admin = is.1.admin });
  storage = λ addr key value found. lawful.storage addr key value (sym (ap (λ (m : FinMap addressed_cmp (List ℕ)). get m (addr, key)) also) ∙ found);
}
