-- The key that is read from bytes is the only one that they are those of.
use Rattle.std.proofs.Common.{◌≡◌, ℕ, zero, suc, ◌+◌, ◌-◌, ◌^◌, ◌<◌, ◌≤◌, List, [], ◌∷◌, ◌++◌, length, Option, Some, None, refl, sym, ap, subst, ◌∙◌, arith, false, eqb, lit<}
use Rattle.std.proofs.lemmas.Bool.{ne_eqb}
use Rattle.chain_records.specs.Pieces.{be8}
use Rattle.chain_records.specs.Keys.{PlainKey, facts, counters, balance, supply, code, code_info, pin, contract, storage, key_bytes, IsKey, IsKeyOf}
use Rattle.chain_records.specs.Reading.{◌>>=◌, ended, number_of, text_of}
use Rattle.chain_records.specs.KeyReading.{short_at, balance_of, storage_of, supply_of, numbered, key_behind, key_of}
use Rattle.chain_records.proofs.Texts.{text_is}
use Rattle.chain_records.proofs.Pieces.{AreBytes, bytes-rest, bind_some, some_is, ended_some, front_takes, front_again, number_is, number_is_again, text_is_utf8}

abbrev no_value : Option PlainKey
no_value = None

-- the bytes behind the first, and that one, are those of the key
abbrev Behind : ℕ → List ℕ → PlainKey → Type 0
Behind tag bytes key = IsKeyOf (tag ∷ bytes) key

short_takes : (bytes : List ℕ) (x : List ℕ × List ℕ) → AreBytes bytes → short_at bytes ≡ Some x → (bytes ≡ length x.0 ∷ x.0 ++ x.1) × (length x.0 ≤ 255)
unfolding short_at
short_takes [] x h e = absurd cc
short_takes (n ∷ bytes) x h e =
    let t = front_takes n bytes x (bytes-rest n bytes h) e in
    (rw (t.1) (ap (λ (r : List ℕ). n ∷ r) t.0.parts), omega (arith, t.1, h 0))

short_again : (addr rest : List ℕ) → short_at (length addr ∷ addr ++ rest) ≡ Some (addr, rest)
unfolding short_at
short_again addr rest = front_again (length addr) addr rest refl

numbered_is : (tag : ℕ) (make : ℕ → PlainKey) (bytes : List ℕ) (key : PlainKey) → AreBytes bytes → numbered make bytes ≡ Some key → ((n : ℕ) → n < 2 ^ 64 → Behind tag (be8 n) (make n)) → Behind tag bytes key
numbered_is tag make bytes key h e is =
    let b = bind_some (number_of bytes) (λ id. Some (make id)) key e in
    let t = number_is bytes b.0 h b.1 in
    subst (λ (k : PlainKey). Behind tag bytes k) (some_is (make b.0) key b.2) (subst (λ (r : List ℕ). Behind tag r (make b.0)) (sym t.0) (is b.0 t.1))

balance_is : (bytes : List ℕ) (key : PlainKey) → AreBytes bytes → balance_of bytes ≡ Some key → Behind 1 bytes key
unfolding key_bytes
balance_is bytes key h e =
    let a = bind_some (short_at bytes) (λ addr. text_of addr.1 >>= λ denom. Some (balance addr.0 denom)) key e in
    let d = bind_some (text_of a.0.1) (λ denom. Some (balance a.0.0 denom)) key a.2 in
    let t = short_takes bytes a.0 h a.1 in
    let u = text_is_utf8 a.0.1 d.0 d.1 in
    subst (λ (k : PlainKey). Behind 1 bytes k) (some_is (balance a.0.0 d.0) key d.2)
    (record { is_key = (t.1, u.1); same = ap (λ (r : List ℕ). 1 ∷ r) (ap (λ (r : List ℕ). length a.0.0 ∷ a.0.0 ++ r) (sym u.0) ∙ sym t.0) })

storage_is : (bytes : List ℕ) (key : PlainKey) → AreBytes bytes → storage_of bytes ≡ Some key → Behind 5 bytes key
unfolding key_bytes
storage_is bytes key h e =
    let a = bind_some (short_at bytes) (λ addr. Some (storage addr.0 addr.1)) key e in
    let t = short_takes bytes a.0 h a.1 in
    subst (λ (k : PlainKey). Behind 5 bytes k) (some_is (storage a.0.0 a.0.1) key a.2)
    (record { is_key = t.1; same = ap (λ (r : List ℕ). 5 ∷ r) (sym t.0) })

supply_is : (bytes : List ℕ) (key : PlainKey) → supply_of bytes ≡ Some key → Behind 8 bytes key
unfolding key_bytes
supply_is bytes key e =
    let d = bind_some (text_of bytes) (λ denom. Some (supply denom)) key e in
    let u = text_is_utf8 bytes d.0 d.1 in
    subst (λ (k : PlainKey). Behind 8 bytes k) (some_is (supply d.0) key d.2) (record { is_key = u.1; same = ap (λ (r : List ℕ). 8 ∷ r) (sym u.0) })

ended_is : (tag : ℕ) (made : PlainKey) (bytes : List ℕ) (key : PlainKey) → ended made bytes ≡ Some key → Behind tag [] made → Behind tag bytes key
ended_is tag made bytes key e is =
    let g = ended_some made key bytes e in
    rw (g.0, ← g.1) is

none_some : (key : PlainKey) → no_value ≡ Some key → ⊥
none_some key e = absurd cc

other_tag : (n k : ℕ) → k < 9 → eqb (n + 9) k ≡ false
other_tag n k lt = ne_eqb (n + 9) k (λ e. omega arith)

-- there are no other kinds
none_behind : (n : ℕ) (bytes : List ℕ) → key_behind (n + 9) bytes ≡ None
unfolding key_behind
none_behind n bytes = rw (other_tag n 0 (lit< tt), other_tag n 1 (lit< tt), other_tag n 2 (lit< tt), other_tag n 3 (lit< tt), other_tag n 4 (lit< tt), other_tag n 5 (lit< tt), other_tag n 6 (lit< tt), other_tag n 7 (lit< tt), other_tag n 8 (lit< tt)) refl

none_above : (tag : ℕ) (bytes : List ℕ) → 9 ≤ tag → key_behind tag bytes ≡ None
none_above tag bytes le = let e : tag ≡ (tag - 9) + 9 = omega arith in ap (λ (t : ℕ). key_behind t bytes) e ∙ none_behind (tag - 9) bytes

behind_is : (tag : ℕ) (bytes : List ℕ) (key : PlainKey) → AreBytes bytes → key_behind tag bytes ≡ Some key → Behind tag bytes key
unfolding key_behind key_bytes
behind_is zero bytes key h e = ended_is 0 facts bytes key e (record { is_key = tt; same = refl })
behind_is (suc zero) bytes key h e = balance_is bytes key h e
behind_is (suc (suc zero)) bytes key h e = numbered_is 2 code bytes key h e (λ n lt. record { is_key = lt; same = refl })
behind_is (suc (suc (suc zero))) bytes key h e = numbered_is 3 code_info bytes key h e (λ n lt. record { is_key = lt; same = refl })
behind_is (suc (suc (suc (suc zero)))) bytes key h e = subst (λ (k : PlainKey). Behind 4 bytes k) (some_is (contract bytes) key e) (record { is_key = tt; same = refl })
behind_is (suc (suc (suc (suc (suc zero))))) bytes key h e = storage_is bytes key h e
behind_is (suc (suc (suc (suc (suc (suc zero)))))) bytes key h e = numbered_is 6 pin bytes key h e (λ n lt. record { is_key = lt; same = refl })
behind_is (suc (suc (suc (suc (suc (suc (suc zero))))))) bytes key h e = ended_is 7 counters bytes key e (record { is_key = tt; same = refl })
behind_is (suc (suc (suc (suc (suc (suc (suc (suc zero)))))))) bytes key h e = supply_is bytes key e
behind_is (suc (suc (suc (suc (suc (suc (suc (suc (suc n))))))))) bytes key h e = absurd (let none = none_above (suc (suc (suc (suc (suc (suc (suc (suc (suc n))))))))) bytes (omega arith) in none_some key (sym none ∙ e))

-- what is read is the key of the bytes
pub read_is : (bytes : List ℕ) (key : PlainKey) → AreBytes bytes → key_of bytes ≡ Some key → IsKeyOf bytes key
unfolding key_of
read_is [] key h e = absurd cc
read_is (tag ∷ bytes) key h e = behind_is tag bytes key (bytes-rest tag bytes h) e

-- a key is read from its bytes
pub read_again : (key : PlainKey) → IsKey key → key_of (key_bytes key) ≡ Some key
unfolding key_of key_behind key_bytes
read_again facts h = refl
read_again counters h = refl
read_again (balance addr denom) h = rw (short_again addr denom, text_is denom h.1) refl
read_again (supply denom) h = rw (text_is denom h) refl
read_again (code id) h = rw (number_is_again id h) refl
read_again (code_info id) h = rw (number_is_again id h) refl
read_again (pin id) h = rw (number_is_again id h) refl
read_again (contract addr) h = refl
read_again (storage addr key) h = rw (short_again addr key) refl

-- what cannot be read is no key's
pub no_key : (bytes : List ℕ) → key_of bytes ≡ None → (key : PlainKey) → IsKeyOf bytes key → ⊥
no_key bytes e key is = let again : key_of bytes ≡ Some key = ap key_of (sym is.same) ∙ read_again key is.is_key in cc

-- the bytes of a key are those of no other
pub same_key : (j k : PlainKey) → IsKey j → IsKey k → key_bytes j ≡ key_bytes k → j ≡ k
same_key j k hj hk e = some_is j k (sym (read_again j hj) ∙ ap key_of e ∙ read_again k hk)

pub tells_keys : (bytes : List ℕ) (one other : PlainKey) → IsKeyOf bytes one → IsKeyOf bytes other → one ≡ other
tells_keys bytes one other a b = same_key one other a.is_key b.is_key (a.same ∙ sym b.same)
