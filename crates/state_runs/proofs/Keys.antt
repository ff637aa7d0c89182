-- Of two keys: which is less, and what bounds say of both.
use Rattle.std.proofs.Common.{◌≡◌, ℕ, ◌⊎◌, inl, inr, Bool, true, false, List, Option, Some, None, refl, sym, ◌∙◌, ap, true≢false}
use Rattle.std.specs.declared.cmp.Ordering.TheVariants.{Less, Equal, Greater}
use Rattle.std.specs.Ordering.{is_lt, is_eq, ordering_reverse}
use Rattle.std.specs.Bool.{Decides, one_answer}
use Rattle.std.specs.Cmp.Lexicographic.{nat_list_cmp_total}
use Rattle.kv_layers.specs.Bytes.{bytes_cmp}
use Rattle.kv_layers.specs.Next.{is_below}
use Rattle.kv_layers.proofs.Keys.{less_of, is_lt_of, same_of, itself, turned}
use Rattle.kv_layers.proofs.Ranges.{equal_of}

-- the test finds a key just where it is the same
pub same_key : (a b : List ℕ) → is_eq (bytes_cmp a b) ≡ true → a ≡ b
same_key a b e = same_of a b (equal_of _ e)

pub less_trans : (a b c : List ℕ) → bytes_cmp a b ≡ Less → bytes_cmp b c ≡ Less → bytes_cmp a c ≡ Less
less_trans a b c p q = nat_list_cmp_total.trans a b c p q

pub is_itself : (a : List ℕ) → is_eq (bytes_cmp a a) ≡ true
is_itself a = ap is_eq (itself a)

pub not_same-less : (a b : List ℕ) → bytes_cmp a b ≡ Less → is_eq (bytes_cmp a b) ≡ false
not_same-less a b e = ap is_eq e

pub not_same-greater : (a b : List ℕ) → bytes_cmp b a ≡ Less → is_eq (bytes_cmp a b) ≡ false
not_same-greater a b e = ap is_eq (turned a b ∙ ap ordering_reverse e)

-- of two keys one is less, or they are the same
pub key_cases : (a b : List ℕ) → (bytes_cmp a b ≡ Less) ⊎ (a ≡ b) ⊎ (bytes_cmp b a ≡ Less)
key_cases a b =
    elim (bytes_cmp a b) as (λ r. bytes_cmp a b ≡ r → (bytes_cmp a b ≡ Less) ⊎ (a ≡ b) ⊎ (bytes_cmp b a ≡ Less)) [
      | Less ↦ λ e. inl e
      | Equal ↦ λ e. inr (inl (same_of a b e))
      | Greater ↦ λ e. inr (inr (turned b a ∙ ap ordering_reverse e))
    ] refl

pub not_less-greater : (a b : List ℕ) → bytes_cmp b a ≡ Less → is_lt (bytes_cmp a b) ≡ false
not_less-greater a b e = ap is_lt (turned a b ∙ ap ordering_reverse e)

-- what isn't less is the same or greater
pub not_less-cases : (a b : List ℕ) → is_lt (bytes_cmp a b) ≡ false → (a ≡ b) ⊎ (bytes_cmp b a ≡ Less)
not_less-cases a b h = elim (key_cases a b) [ inl p ↦ absurd (true≢false (sym (is_lt_of _ p) ∙ h)) | inr (inl e) ↦ inl e | inr (inr q) ↦ inr q ]

-- a key below an upper bound is less than one that isn't
pub below_less : (hi : Option (List ℕ)) (a b : List ℕ) → is_below hi a ≡ true → is_below hi b ≡ false → bytes_cmp a b ≡ Less
below_less None a b p q = absurd (true≢false q)
below_less (Some u) a b p q = elim (not_less-cases b u q) [
  | inl e ↦ rw e (less_of _ p)
  | inr lt ↦ less_trans a u b (less_of _ p) lt
]

-- a test that tells whether two keys are the same
pub same_test : (a b : List ℕ) (r : Bool) → Decides r (a ≡ b) → r ≡ is_eq (bytes_cmp b a)
same_test a b r h = one_answer r (is_eq (bytes_cmp b a)) h (λ e. sym (same_key b a e), λ e. ap (λ x. is_eq (bytes_cmp b x)) e ∙ is_itself b)
