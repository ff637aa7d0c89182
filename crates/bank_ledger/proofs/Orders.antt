-- The orders of addresses, denoms and accounts are total, and tell all keys apart.
use Rattle.std.proofs.Common.{◌≡◌, true, refl, ap, ◌∙◌, ◌&&◌}
use Rattle.std.specs.declared.cmp.Ordering.{Ordering}
use Rattle.std.specs.declared.cmp.Ordering.TheVariants.{Less, Equal, Greater}
use Rattle.std.specs.Ordering.{nat_cmp, is_eq, eq_by_cmp, ordering_then}
use Rattle.std.specs.Str.{bytes_eq}
use Rattle.std.specs.Cmp.Lexicographic.{slice_cmp, nat_list_cmp_total}
use Rattle.std.specs.Cmp.{IsTotalOrder}
use Rattle.std.specs.FinMap.{IsAntisymmetric}
use Rattle.std.proofs.lemmas.Cmp.{on_total, then_total}
use Rattle.std.proofs.lemmas.Map.Lookups.{exact_bytes, exact_pairs}
use Rattle.std.proofs.lemmas.Map.Text.{is_eq-slice_cmp}
use Rattle.chain_records.specs.State.{Addressed, addressed_cmp}

pub addressed_total : IsTotalOrder addressed_cmp
addressed_total = then_total (on_total (λ (p : Addressed). p.0) nat_list_cmp_total) (on_total (λ (p : Addressed). p.1) nat_list_cmp_total)

pub addressed_exact : IsAntisymmetric addressed_cmp
addressed_exact = exact_pairs (slice_cmp nat_cmp) (slice_cmp nat_cmp) exact_bytes exact_bytes

both_eq : (a b : Ordering) → is_eq (ordering_then a b) ≡ (is_eq a && is_eq b)
both_eq Less b = refl
both_eq Equal b = refl
both_eq Greater b = refl

pub same_account : (p q : Addressed) → eq_by_cmp addressed_cmp p q ≡ (bytes_eq p.0 q.0 && bytes_eq p.1 q.1)
same_account p q =
    both_eq (slice_cmp nat_cmp p.0 q.0) (slice_cmp nat_cmp p.1 q.1)
    ∙ ap (λ b. b && is_eq (slice_cmp nat_cmp p.1 q.1)) (is_eq-slice_cmp p.0 q.0)
    ∙ ap (λ b. bytes_eq p.0 q.0 && b) (is_eq-slice_cmp p.1 q.1)

pub equal_of : (r : Ordering) → is_eq r ≡ true → r ≡ Equal
equal_of Less e = absurd cc
equal_of Equal e = refl
equal_of Greater e = absurd cc
