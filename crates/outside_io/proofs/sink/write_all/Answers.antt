use Rattle.std.proofs.Common.{ℕ, List, Option, length, ◌≡◌, ◌-◌, ◌++◌, ◌∙◌, ap, sym, append_assoc, take, drop, take-append-drop, arith}
use Rattle.std.proofs.lemmas.List.{take_rest}
use Rattle.std.proofs.KnownBytes.{Appends-trans}
use Rattle.std.specs.Io.KnownBytes.{Appends}
use Rattle.outside_io.proofs.sink.write_all.Goals as goal

-- after a front of the bytes, the first n bytes of the rest make a longer front
more_front : (a b c : Option (List ℕ)) (bytes front rest : List ℕ) (n : ℕ) → bytes ≡ front ++ rest → Appends a b front → Appends b c (take n rest)
    → (x : List ℕ) × (bytes ≡ x ++ take (length rest - n) (drop n rest)) × Appends a c x
more_front a b c bytes front rest n split before more =
    let cut : rest ≡ take n rest ++ take (length rest - n) (drop n rest) =
    sym (take-append-drop n rest) ∙ ap (λ l. take n rest ++ l) (sym (take_rest rest n)) in
    (front ++ take n rest, split ∙ ap (λ l. front ++ l) cut ∙ sym (append_assoc front (take n rest) _), Appends-trans a b c front (take n rest) before more)

pub loop-rest-preserved : goal.loop-rest-preserved
loop-rest-preserved g c =
    let so_far = c.loop-rest.invariant.front in
    let taken = c.in_ok-taken.ensures in
    record {
      front = more_front _ _ _ _ so_far.0 _ _ so_far.1 so_far.2 taken.bytes;
      counted = omega (arith, c.loop-rest.invariant.counted, taken.cause.0);
    }
