-- A chain that begins has no contracts, which is lawful, and codes that are stored leave it lawful.
use Rattle.std.proofs.Common.{◌≡◌, ℕ, ◌+◌, ◌<◌, ◌^◌, List, Some, None, Result, Ok, Err, refl, sym, ap, ◌∙◌, subst, arith}
use Rattle.std.specs.Ordering.{nat_cmp}
use Rattle.std.specs.Cmp.Lexicographic.{slice_cmp}
use Rattle.std.specs.FinMap.{insert, empty, get-empty}
use Rattle.std.specs.Result.{IfErr, OnOk}
use Rattle.contract_admin.specs.declared.stop.AdminStop.{AdminStop}
use Rattle.contract_admin.specs.declared.stop.AdminStop.TheVariants.{NoSuchContract, NotAdmin, NoSuchCode, MayNotInstantiate, AddressTaken, LabelBad, NoMemory}
use Rattle.contract_admin.specs.Refusals.{UnlessNoMemory}
use Rattle.chain_records.specs.declared.record.Counters.{Counters}
use Rattle.chain_records.specs.Changes.{bare, with_changes, with_code, with_next_code, code_changes}
use Rattle.chain_records.specs.Keys.{IsKeyOf}
use Rattle.chain_records.specs.Keys as keys
use Rattle.chain_records.specs.Laws.{SpellsFirst, SpellsCode}
use Rattle.chain_records.specs.Records.{PlainFacts, PlainCodeInfo, facts, counters, code_bytes, code_info, IsRecordOf}
use Rattle.chain_records.specs.Spelled.{OfSome}
use Rattle.chain_records.specs.State.{Bytes, Code, State, addressed_cmp, Spells}
use Rattle.contract_admin.specs.Lawful.{HasLawfulContracts}
use Rattle.contract_admin.specs.Laws.{StayLawfulWithCode}

-- contracts are lawful, and these are the counters
abbrev pub HasCounters : Counters → State → Type 0
HasCounters c s = HasLawfulContracts s × (s.counters ≡ c)

bare_lawful : (f : PlainFacts) (c : Counters) → HasLawfulContracts (bare f c)
bare_lawful f c = record {
  contracts = λ addr d found. let none = sym found ∙ get-empty (slice_cmp nat_cmp) addr in absurd cc;
  storage = λ addr key value found. let none = sym found ∙ get-empty addressed_cmp (addr, key) in absurd cc;
}

pub begun_map : SpellsFirst → (f : PlainFacts) (c : Counters) (kf vf kc vc : List ℕ) (map : Bytes) → IsKeyOf kf keys.facts → IsRecordOf vf (facts f) → IsKeyOf kc keys.counters → IsRecordOf vc (counters c) → map ≡ insert (insert empty kf vf) kc vc
    → OfSome (λ m. map ≡ m) (HasCounters c)
begun_map law f c kf vf kc vc map is_kf is_vf is_kc is_vc is = record {
  map = map;
  state = bare f c;
  stands = refl;
  spelled = subst (λ (m : Bytes). Spells m (bare f c)) ((λ i. insert (insert empty (is_kf.same i) (is_vf.same i)) (is_kc.same i) (is_vc.same i)) ∙ sym is) (law f c is_vf.is_record is_vc.is_record);
  holds = (bare_lawful f c, refl);
}

pub stored_map : SpellsCode → StayLawfulWithCode → (given : Counters) (bytes : List ℕ) (info : PlainCodeInfo) (kb vb ki vi kc vc : List ℕ) (map new : Bytes) → given.next_code < 1000
    → IsKeyOf kb (keys.code given.next_code) → IsRecordOf vb (code_bytes bytes) → IsKeyOf ki (keys.code_info given.next_code) → IsRecordOf vi (code_info info) → IsKeyOf kc keys.counters → IsRecordOf vc (counters (with_next_code given))
    → new ≡ insert (insert (insert map kb vb) ki vi) kc vc → OfSome (λ m. map ≡ m) (HasCounters given) → OfSome (λ m. new ≡ m) (HasCounters (with_next_code given))
stored_map law stay given bytes info kb vb ki vi kc vc map new few is_kb is_vb is_ki is_vi is_kc is_vc is typed =
    let code : Code = record { bytes = bytes; info = info } in
    let s = typed.state in
    let same : s.counters ≡ given = typed.holds.1 in
    let before : Spells map s = subst (λ (m : Bytes). Spells m s) (sym typed.stands) typed.spelled in
    let few_more : given.next_code + 1 < 2 ^ 64 = omega arith in
    let room : s.counters.next_code + 1 < 2 ^ 64 = subst (λ (c : Counters). c.next_code + 1 < 2 ^ 64) (sym same) few_more in
    let after : Spells (with_changes map (code_changes given code)) (with_code s code) = subst (λ (c : Counters). Spells (with_changes map (code_changes c code)) (with_code s code)) same (law map s code before is_vi.is_record room) in
    record {
      map = new;
      state = with_code s code;
      stands = refl;
      spelled = subst (λ (m : Bytes). Spells m (with_code s code)) ((λ i. insert (insert (insert map (is_kb.same i) (is_vb.same i)) (is_ki.same i) (is_vi.same i)) (is_kc.same i) (is_vc.same i)) ∙ sym is) after;
      holds = (stay s code typed.holds.0, ap with_next_code same);
    }

-- ---- after a call for which memory was enough

unless_memory : (stop : AdminStop) (P : Type 0) → (stop ≡ NoMemory → ⊥) → UnlessNoMemory stop P → P
unless_memory NoSuchContract P enough p = p
unless_memory NotAdmin P enough p = p
unless_memory (NoSuchCode id) P enough p = p
unless_memory MayNotInstantiate P enough p = p
unless_memory AddressTaken P enough p = p
unless_memory LabelBad P enough p = p
unless_memory NoMemory P enough p = absurd (enough refl)

pub after : {T : Type 0} (done : Result T AdminStop) (P : Type 0) → OnOk done P → IfErr done (λ stop. UnlessNoMemory stop P) → IfErr done (λ stop. stop ≡ NoMemory → ⊥) → P
after (Ok x) P ok err enough = ok
after (Err stop) P ok err enough = unless_memory stop P enough err
