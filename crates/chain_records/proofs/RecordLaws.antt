-- The record that is read from bytes under a key is the only one that they are those of.
use Rattle.std.proofs.Common.{◌≡◌, ℕ, zero, suc, List, [], ◌∷◌, ◌++◌, Option, Some, None, refl, sym, ap, subst, ◌∙◌, append_assoc, arith, false, eqb}
use Rattle.std.proofs.lemmas.Bool.{ne_eqb}
use Rattle.std.proofs.lemmas.List.{append-nil}
use Rattle.chain_records.specs.declared.record.Counters.{Counters}
use Rattle.chain_records.specs.Keys.{PlainKey}
use Rattle.chain_records.specs.Keys as keys
use Rattle.chain_records.specs.Pieces.{be8, after_length, listed, optional}
use Rattle.chain_records.specs.Records.{PlainFacts, PlainCodeInfo, PlainContract, PlainStored, facts, counters, amount, code_bytes, code_info, mark, contract, value, facts_bytes, counters_bytes, code_info_bytes, contract_bytes, stored_bytes, AreFacts, AreCounters, IsCodeInfo, IsContract, IsRecord, Belongs, IsRecordUnder}
use Rattle.chain_records.specs.Reading.{◌>>=◌, ended, front_at, number_at, bytes_at, text_at, list_at, optional_at}
use Rattle.chain_records.specs.RecordReading.{facts_at, counters_at, code_info_at, contract_at, whole, mark_of, stored_of}
use Rattle.chain_records.proofs.Pieces.{AreBytes, bind_some, some_is, ended_some, Takes, takes_both, front_takes, front_again}
use Rattle.chain_records.proofs.PartLaws.{Inverse, inverse_number, inverse_bytes, inverse_text, inverse_list, inverse_optional, inverse_amount}

abbrev nothing : Option PlainStored
nothing = None

bind_then : {A B : Type 0} (r : Option A) (f : A → Option B) (y : B) (Goal : Type 0) → (r >>= f) ≡ Some y → ((x : A) → r ≡ Some x → f x ≡ Some y → Goal) → Goal
bind_then r f y Goal e then = let b = bind_some r f y e in then b.0 b.1 b.2

-- ---- counters

counters_take : (bytes : List ℕ) (x : Counters × List ℕ) → AreBytes bytes → counters_at bytes ≡ Some x → Takes bytes (counters_bytes x.0) x.1 × AreCounters x.0
unfolding counters_at
counters_take bytes x h e =
    let a = bind_some (number_at bytes) (λ code. number_at code.1 >>= λ instance. Some (record { next_code = code.0; next_instance = instance.0 }, instance.1)) x e in
    let b = bind_some (number_at a.0.1) (λ instance. Some (record { next_code = a.0.0; next_instance = instance.0 }, instance.1)) x a.2 in
    let ta = inverse_number.takes bytes a.0 h a.1 in
    let tb = inverse_number.takes a.0.1 b.0 ta.0.are_bytes b.1 in
    let given : Counters × List ℕ = (record { next_code = a.0.0; next_instance = b.0.0 }, b.0.1) in
    subst (λ (y : Counters × List ℕ). Takes bytes (counters_bytes y.0) y.1 × AreCounters y.0) (some_is given x b.2)
    (takes_both bytes (be8 a.0.0) a.0.1 (be8 b.0.0) b.0.1 ta.0 tb.0, record { next_code = ta.1; next_instance = tb.1 })

counters_again : (c : Counters) (rest : List ℕ) → AreCounters c → counters_at (counters_bytes c ++ rest) ≡ Some (c, rest)
unfolding counters_at
counters_again c rest h = rw (inverse_number.again c.next_code (be8 c.next_instance ++ rest) h.next_code, inverse_number.again c.next_instance rest h.next_instance) refl

inverse_counters : Inverse AreCounters counters_bytes counters_at
inverse_counters = record { takes = counters_take; again = counters_again }

-- ---- what is known of a code

code_info_takes : (bytes : List ℕ) (x : PlainCodeInfo × List ℕ) → AreBytes bytes → code_info_at bytes ≡ Some x → Takes bytes (code_info_bytes x.0) x.1 × IsCodeInfo x.0
unfolding code_info_at
code_info_takes bytes x h e =
    let a = bind_some (bytes_at bytes) (λ creator. front_at 32 creator.1 >>= λ checksum. optional_at (list_at bytes_at) checksum.1 >>= λ allow. Some (record { creator = creator.0; checksum = checksum.0; allow = allow.0 }, allow.1)) x e in
    let b = bind_some (front_at 32 a.0.1) (λ checksum. optional_at (list_at bytes_at) checksum.1 >>= λ allow. Some (record { creator = a.0.0; checksum = checksum.0; allow = allow.0 }, allow.1)) x a.2 in
    let c = bind_some (optional_at (list_at bytes_at) b.0.1) (λ allow. Some (record { creator = a.0.0; checksum = b.0.0; allow = allow.0 }, allow.1)) x b.2 in
    let ta = inverse_bytes.takes bytes a.0 h a.1 in
    let tb = front_takes 32 a.0.1 b.0 ta.0.are_bytes b.1 in
    let tc = (inverse_optional (inverse_list inverse_bytes)).takes b.0.1 c.0 tb.0.are_bytes c.1 in
    let ab = takes_both bytes (after_length a.0.0) a.0.1 b.0.0 b.0.1 ta.0 tb.0 in
    let abc = takes_both bytes (after_length a.0.0 ++ b.0.0) b.0.1 (optional (listed after_length) c.0.0) c.0.1 ab tc.0 in
    let given : PlainCodeInfo × List ℕ = (record { creator = a.0.0; checksum = b.0.0; allow = c.0.0 }, c.0.1) in
    subst (λ (y : PlainCodeInfo × List ℕ). Takes bytes (code_info_bytes y.0) y.1 × IsCodeInfo y.0) (some_is given x c.2) (abc, record { creator = ta.1; checksum = tb.1; allow = tc.1 })

regroup_3 : (x y z rest : List ℕ) → (x ++ y ++ z) ++ rest ≡ x ++ (y ++ (z ++ rest))
regroup_3 x y z rest = simp append_assoc

code_info_again : (info : PlainCodeInfo) (rest : List ℕ) → IsCodeInfo info → code_info_at (code_info_bytes info ++ rest) ≡ Some (info, rest)
unfolding code_info_at
code_info_again info rest h =
    let z = optional (listed after_length) info.allow in
    ap code_info_at (regroup_3 (after_length info.creator) info.checksum z rest)
    ∙ rw (inverse_bytes.again info.creator (info.checksum ++ (z ++ rest)) h.creator, front_again 32 info.checksum (z ++ rest) h.checksum, (inverse_optional (inverse_list inverse_bytes)).again info.allow rest h.allow) refl

inverse_code_info : Inverse IsCodeInfo code_info_bytes code_info_at
inverse_code_info = record { takes = code_info_takes; again = code_info_again }

-- ---- contracts

contract_takes : (bytes : List ℕ) (x : PlainContract × List ℕ) → AreBytes bytes → contract_at bytes ≡ Some x → Takes bytes (contract_bytes x.0) x.1 × IsContract x.0
unfolding contract_at
contract_takes bytes x h e =
    let a = bind_some (number_at bytes) (λ id. bytes_at id.1 >>= λ creator. optional_at bytes_at creator.1 >>= λ admin. text_at admin.1 >>= λ label. Some (record { code_id = id.0; creator = creator.0; admin = admin.0; label = label.0 }, label.1)) x e in
    let b = bind_some (bytes_at a.0.1) (λ creator. optional_at bytes_at creator.1 >>= λ admin. text_at admin.1 >>= λ label. Some (record { code_id = a.0.0; creator = creator.0; admin = admin.0; label = label.0 }, label.1)) x a.2 in
    let c = bind_some (optional_at bytes_at b.0.1) (λ admin. text_at admin.1 >>= λ label. Some (record { code_id = a.0.0; creator = b.0.0; admin = admin.0; label = label.0 }, label.1)) x b.2 in
    let d = bind_some (text_at c.0.1) (λ label. Some (record { code_id = a.0.0; creator = b.0.0; admin = c.0.0; label = label.0 }, label.1)) x c.2 in
    let ta = inverse_number.takes bytes a.0 h a.1 in
    let tb = inverse_bytes.takes a.0.1 b.0 ta.0.are_bytes b.1 in
    let tc = (inverse_optional inverse_bytes).takes b.0.1 c.0 tb.0.are_bytes c.1 in
    let td = inverse_text.takes c.0.1 d.0 tc.0.are_bytes d.1 in
    let ab = takes_both bytes (be8 a.0.0) a.0.1 (after_length b.0.0) b.0.1 ta.0 tb.0 in
    let abc = takes_both bytes (be8 a.0.0 ++ after_length b.0.0) b.0.1 (optional after_length c.0.0) c.0.1 ab tc.0 in
    let abcd = takes_both bytes (be8 a.0.0 ++ after_length b.0.0 ++ optional after_length c.0.0) c.0.1 (after_length d.0.0) d.0.1 abc td.0 in
    let given : PlainContract × List ℕ = (record { code_id = a.0.0; creator = b.0.0; admin = c.0.0; label = d.0.0 }, d.0.1) in
    subst (λ (y : PlainContract × List ℕ). Takes bytes (contract_bytes y.0) y.1 × IsContract y.0) (some_is given x d.2) (abcd, record { code_id = ta.1; creator = tb.1; admin = tc.1; label = td.1 })

regroup_4 : (w x y z rest : List ℕ) → (w ++ x ++ y ++ z) ++ rest ≡ w ++ (x ++ (y ++ (z ++ rest)))
regroup_4 w x y z rest = simp append_assoc

contract_again : (c : PlainContract) (rest : List ℕ) → IsContract c → contract_at (contract_bytes c ++ rest) ≡ Some (c, rest)
unfolding contract_at
contract_again c rest h =
    let x = after_length c.creator in
    let y = optional after_length c.admin in
    let z = after_length c.label in
    ap contract_at (regroup_4 (be8 c.code_id) x y z rest)
    ∙ rw (inverse_number.again c.code_id (x ++ (y ++ (z ++ rest))) h.code_id, inverse_bytes.again c.creator (y ++ (z ++ rest)) h.creator, (inverse_optional inverse_bytes).again c.admin (z ++ rest) h.admin, inverse_text.again c.label rest h.label) refl

inverse_contract : Inverse IsContract contract_bytes contract_at
inverse_contract = record { takes = contract_takes; again = contract_again }

-- ---- facts

abbrev rest_of_facts : List ℕ → List ℕ → Option (List ℕ) → List (List ℕ) → ℕ → ℕ → ℕ × List ℕ → Option (PlainFacts × List ℕ)
rest_of_facts chain_id prefix authority caps query_gas height time = Some (
  record {
    chain_id = chain_id;
    prefix = prefix;
    authority = authority;
    caps = caps;
    query_gas = query_gas;
    height = height;
    time = time.0;
  },
  time.1,
)

joined_7 : (o a b c d e f g s t u w x y z : List ℕ) → Takes o s a → Takes a t b → Takes b u c → Takes c w d → Takes d x e → Takes e y f → Takes f z g → Takes o (s ++ t ++ u ++ w ++ x ++ y ++ z) g
joined_7 o a b c d e f g s t u w x y z ta tb tc td te tf tg = record {
  parts = rw (ta.parts, tb.parts, tc.parts, td.parts, te.parts, tf.parts, tg.parts) (simp append_assoc);
  are_bytes = tg.are_bytes;
}

-- the parts that were read, one after the other
facts_join : (bytes : List ℕ) (x : PlainFacts × List ℕ) (a b : List ℕ × List ℕ) (c : Option (List ℕ) × List ℕ) (d : List (List ℕ) × List ℕ) (e f g : ℕ × List ℕ) → AreBytes bytes
    → text_at bytes ≡ Some a → text_at a.1 ≡ Some b → optional_at bytes_at b.1 ≡ Some c → list_at text_at c.1 ≡ Some d → number_at d.1 ≡ Some e → number_at e.1 ≡ Some f → number_at f.1 ≡ Some g
    → rest_of_facts a.0 b.0 c.0 d.0 e.0 f.0 g ≡ Some x → Takes bytes (facts_bytes x.0) x.1 × AreFacts x.0
facts_join bytes x a b c d e f g h ra rb rc rd re rf rg is =
    let ta = inverse_text.takes bytes a h ra in
    let tb = inverse_text.takes a.1 b ta.0.are_bytes rb in
    let tc = (inverse_optional inverse_bytes).takes b.1 c tb.0.are_bytes rc in
    let td = (inverse_list inverse_text).takes c.1 d tc.0.are_bytes rd in
    let te = inverse_number.takes d.1 e td.0.are_bytes re in
    let tf = inverse_number.takes e.1 f te.0.are_bytes rf in
    let tg = inverse_number.takes f.1 g tf.0.are_bytes rg in
    subst (λ (y : PlainFacts × List ℕ). Takes bytes (facts_bytes y.0) y.1 × AreFacts y.0) (some_is _ x is)
    (joined_7 bytes a.1 b.1 c.1 d.1 e.1 f.1 g.1 _ _ _ _ _ _ _ ta.0 tb.0 tc.0 td.0 te.0 tf.0 tg.0, record { chain_id = ta.1; prefix = tb.1; authority = tc.1; caps = td.1; query_gas = te.1; height = tf.1; time = tg.1 })

facts_take : (bytes : List ℕ) (x : PlainFacts × List ℕ) → AreBytes bytes → facts_at bytes ≡ Some x → Takes bytes (facts_bytes x.0) x.1 × AreFacts x.0
unfolding facts_at
facts_take bytes x h whole_is =
    let Goal : Type 0 = Takes bytes (facts_bytes x.0) x.1 × AreFacts x.0 in
    bind_then (text_at bytes) (λ a. text_at a.1 >>= λ b. optional_at bytes_at b.1 >>= λ c. list_at text_at c.1 >>= λ d. number_at d.1 >>= λ e. number_at e.1 >>= λ f. number_at f.1 >>= λ g. rest_of_facts a.0 b.0 c.0 d.0 e.0 f.0 g) x Goal whole_is (λ a ra ea.
    bind_then (text_at a.1) (λ b. optional_at bytes_at b.1 >>= λ c. list_at text_at c.1 >>= λ d. number_at d.1 >>= λ e. number_at e.1 >>= λ f. number_at f.1 >>= λ g. rest_of_facts a.0 b.0 c.0 d.0 e.0 f.0 g) x Goal ea (λ b rb eb.
    bind_then (optional_at bytes_at b.1) (λ c. list_at text_at c.1 >>= λ d. number_at d.1 >>= λ e. number_at e.1 >>= λ f. number_at f.1 >>= λ g. rest_of_facts a.0 b.0 c.0 d.0 e.0 f.0 g) x Goal eb (λ c rc ec.
    bind_then (list_at text_at c.1) (λ d. number_at d.1 >>= λ e. number_at e.1 >>= λ f. number_at f.1 >>= λ g. rest_of_facts a.0 b.0 c.0 d.0 e.0 f.0 g) x Goal ec (λ d rd ed.
    bind_then (number_at d.1) (λ e. number_at e.1 >>= λ f. number_at f.1 >>= λ g. rest_of_facts a.0 b.0 c.0 d.0 e.0 f.0 g) x Goal ed (λ e re ee.
    bind_then (number_at e.1) (λ f. number_at f.1 >>= λ g. rest_of_facts a.0 b.0 c.0 d.0 e.0 f.0 g) x Goal ee (λ f rf ef.
    bind_then (number_at f.1) (λ g. rest_of_facts a.0 b.0 c.0 d.0 e.0 f.0 g) x Goal ef (λ g rg eg.
    facts_join bytes x a b c d e f g h ra rb rc rd re rf rg eg)))))))

regroup_7 : (s t u w x y z rest : List ℕ) → (s ++ t ++ u ++ w ++ x ++ y ++ z) ++ rest ≡ s ++ (t ++ (u ++ (w ++ (x ++ (y ++ (z ++ rest))))))
regroup_7 s t u w x y z rest = simp append_assoc

facts_again : (f : PlainFacts) (rest : List ℕ) → AreFacts f → facts_at (facts_bytes f ++ rest) ≡ Some (f, rest)
unfolding facts_at
facts_again f rest h =
    let t = after_length f.prefix in
    let u = optional after_length f.authority in
    let w = listed after_length f.caps in
    let x = be8 f.query_gas in
    let y = be8 f.height in
    let z = be8 f.time in
    ap facts_at (regroup_7 (after_length f.chain_id) t u w x y z rest)
    ∙ rw (
      inverse_text.again f.chain_id (t ++ (u ++ (w ++ (x ++ (y ++ (z ++ rest)))))) h.chain_id,
      inverse_text.again f.prefix (u ++ (w ++ (x ++ (y ++ (z ++ rest))))) h.prefix,
      (inverse_optional inverse_bytes).again f.authority (w ++ (x ++ (y ++ (z ++ rest)))) h.authority,
      (inverse_list inverse_text).again f.caps (x ++ (y ++ (z ++ rest))) h.caps,
      inverse_number.again f.query_gas (y ++ (z ++ rest)) h.query_gas,
      inverse_number.again f.height (z ++ rest) h.height,
      inverse_number.again f.time rest h.time,
    ) refl

inverse_facts : Inverse AreFacts facts_bytes facts_at
inverse_facts = record { takes = facts_take; again = facts_again }

-- ---- all of the bytes

whole_is : {A : Type 0} {Is : A → Type 0} {written : A → List ℕ} {read : List ℕ → Option (A × List ℕ)} → Inverse Is written read → (key : PlainKey) (kind : A → PlainStored) (bytes : List ℕ) (stored : PlainStored) → AreBytes bytes
    → whole kind (read bytes) ≡ Some stored → ((a : A) → Is a → IsRecordUnder key (written a) (kind a)) → IsRecordUnder key bytes stored
whole_is {written = written} {read = read} inverse key kind bytes stored h e is =
    let a = bind_some (read bytes) (λ a. ended (kind a.0) a.1) stored e in
    let t = inverse.takes bytes a.0 h a.1 in
    let g = ended_some (kind a.0.0) stored a.0.1 a.2 in
    let all : written a.0.0 ≡ bytes = sym (t.0.parts ∙ ap (λ (r : List ℕ). written a.0.0 ++ r) g.0 ∙ append-nil (written a.0.0)) in
    subst (λ (s : PlainStored). IsRecordUnder key bytes s) g.1 (subst (λ (b : List ℕ). IsRecordUnder key b (kind a.0.0)) all (is a.0.0 t.1))

whole_again : {A : Type 0} {Is : A → Type 0} {written : A → List ℕ} {read : List ℕ → Option (A × List ℕ)} → Inverse Is written read → (kind : A → PlainStored) (a : A) → Is a → whole kind (read (written a)) ≡ Some (kind a)
whole_again {written = written} {read = read} inverse kind a h =
    let one : read (written a) ≡ Some (a, []) = ap read (sym (append-nil (written a))) ∙ inverse.again a [] h in
    ap (whole kind) one

no_mark : (b : ℕ) (bytes : List ℕ) → mark_of (suc (suc b) ∷ bytes) ≡ None
unfolding mark_of
no_mark b bytes = let other : eqb (suc (suc b)) 1 ≡ false = ne_eqb (suc (suc b)) 1 (λ e. omega arith) in rw other refl

none_some : (stored : PlainStored) → nothing ≡ Some stored → ⊥
none_some stored e = absurd cc

mark_is : (id : ℕ) (bytes : List ℕ) (stored : PlainStored) → mark_of bytes ≡ Some stored → IsRecordUnder (keys.pin id) bytes stored
unfolding mark_of stored_bytes
mark_is id [] stored e = absurd cc
mark_is id (zero ∷ bytes) stored e = absurd cc
mark_is id (suc zero ∷ bytes) stored e =
    let g = ended_some mark stored bytes e in
    subst (λ (s : PlainStored). IsRecordUnder (keys.pin id) (1 ∷ bytes) s) g.1 (record { belongs = tt; is_record = tt; same = ap (λ (b : List ℕ). 1 ∷ b) (sym g.0) })
mark_is id (suc (suc b) ∷ bytes) stored e = absurd (none_some stored (sym (no_mark b bytes) ∙ e))

-- what is read is the record of the bytes
pub stored_is : (key : PlainKey) (bytes : List ℕ) (stored : PlainStored) → AreBytes bytes → stored_of key bytes ≡ Some stored → IsRecordUnder key bytes stored
unfolding stored_of stored_bytes
stored_is keys.facts bytes stored h e = whole_is inverse_facts keys.facts facts bytes stored h e (λ a is. record { belongs = tt; is_record = is; same = refl })
stored_is keys.counters bytes stored h e = whole_is inverse_counters keys.counters counters bytes stored h e (λ a is. record { belongs = tt; is_record = is; same = refl })
stored_is (keys.balance addr denom) bytes stored h e = whole_is inverse_amount (keys.balance addr denom) amount bytes stored h e (λ a is. record { belongs = tt; is_record = is; same = refl })
stored_is (keys.supply denom) bytes stored h e = whole_is inverse_amount (keys.supply denom) amount bytes stored h e (λ a is. record { belongs = tt; is_record = is; same = refl })
stored_is (keys.code id) bytes stored h e = subst (λ (s : PlainStored). IsRecordUnder (keys.code id) bytes s) (some_is (code_bytes bytes) stored e) (record { belongs = tt; is_record = tt; same = refl })
stored_is (keys.code_info id) bytes stored h e = whole_is inverse_code_info (keys.code_info id) code_info bytes stored h e (λ a is. record { belongs = tt; is_record = is; same = refl })
stored_is (keys.pin id) bytes stored h e = mark_is id bytes stored e
stored_is (keys.contract addr) bytes stored h e = whole_is inverse_contract (keys.contract addr) contract bytes stored h e (λ a is. record { belongs = tt; is_record = is; same = refl })
stored_is (keys.storage addr key) bytes stored h e = subst (λ (s : PlainStored). IsRecordUnder (keys.storage addr key) bytes s) (some_is (value bytes) stored e) (record { belongs = tt; is_record = tt; same = refl })

-- a record is read from its bytes, under each key where it belongs
pub stored_again : (key : PlainKey) (stored : PlainStored) → Belongs key stored → IsRecord stored → stored_of key (stored_bytes stored) ≡ Some stored
unfolding stored_of stored_bytes mark_of
stored_again keys.facts (facts f) b h = whole_again inverse_facts facts f h
stored_again keys.counters (counters c) b h = whole_again inverse_counters counters c h
stored_again (keys.balance addr denom) (amount n) b h = whole_again inverse_amount amount n h
stored_again (keys.supply denom) (amount n) b h = whole_again inverse_amount amount n h
stored_again (keys.code id) (code_bytes bytes) b h = refl
stored_again (keys.code_info id) (code_info info) b h = whole_again inverse_code_info code_info info h
stored_again (keys.pin id) mark b h = refl
stored_again (keys.contract addr) (contract c) b h = whole_again inverse_contract contract c h
stored_again (keys.storage addr key) (value bytes) b h = refl
stored_again key stored b h = absurd b

-- what cannot be read is no record's
pub no_record : (key : PlainKey) (bytes : List ℕ) → stored_of key bytes ≡ None → (stored : PlainStored) → IsRecordUnder key bytes stored → ⊥
no_record key bytes e stored is = let again : stored_of key bytes ≡ Some stored = ap (stored_of key) (sym is.same) ∙ stored_again key stored is.belongs is.is_record in cc

-- the bytes of a record are those of no other under the same key
pub same_record : (key : PlainKey) (one other : PlainStored) → Belongs key one → Belongs key other → IsRecord one → IsRecord other → stored_bytes one ≡ stored_bytes other → one ≡ other
same_record key one other b c h k e = some_is one other (sym (stored_again key one b h) ∙ ap (stored_of key) e ∙ stored_again key other c k)

pub tells_records : (key : PlainKey) (bytes : List ℕ) (one other : PlainStored) → IsRecordUnder key bytes one → IsRecordUnder key bytes other → one ≡ other
tells_records key bytes one other a b = same_record key one other a.belongs b.belongs a.is_record b.is_record (a.same ∙ sym b.same)
