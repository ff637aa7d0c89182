-- Reading custom sections one after the other, as a loop does.
use Rattle.std.proofs.Common.{◌≡◌, ℕ, zero, suc, ◌≤◌, ◌<◌, true, false, List, [], ◌∷◌, length, Ok, Err, refl, sym, ◌∙◌, arith}
use Rattle.wasm_types.specs.Place.{Place, Reading}
use Rattle.wasm_types.specs.ModuleText.{custom, customs_read, begins}
use Rattle.wasm_reader.specs.declared.stop.ReadStop.{ReadStop}
use Rattle.wasm_reader.specs.declared.stop.ReadStop.TheVariants.{Fault, NoMemory}
use Rattle.wasm_reader.specs.Gives.{Fails}
use Rattle.wasm_reader.proofs.Shrinks.{within_custom}

-- so many steps are left, and they are enough
pub record Left (here : Place) (total : Reading (Unit {0})) : Type 0 where
  pub steps : ℕ
  pub enough : length here.rest ≤ steps
  pub read : customs_read steps here ≡ total

some_left : (rest : List ℕ) → begins 0 rest ≡ true → 0 < length rest
some_left [] e = absurd cc
some_left (b ∷ rest) e = omega arith

pub less : (here after : Place) (u : Unit {0}) → custom.read here ≡ Ok (u, after) → length after.rest < length here.rest
less here after u e = omega (arith, within_custom here u after e)

pub goes_on : (here after : Place) (u : Unit {0}) (total : Reading (Unit {0})) → begins 0 here.rest ≡ true → custom.read here ≡ Ok (u, after) → Left here total → Left after total
unfolding customs_read
goes_on here after u total b e left = go left.steps left.enough left.read
  where
    go : (steps : ℕ) → length here.rest ≤ steps → customs_read steps here ≡ total → Left after total
    go zero le h = absurd (omega (arith, some_left here.rest b, le))
    go (suc steps) le h =
        let one : customs_read (suc steps) here ≡ customs_read steps after = rw (b, e) refl in
        record { steps = steps; enough = omega (arith, le, less here after u e); read = sym one ∙ h }

pub fails : (e : ReadStop) (here : Place) (total : Reading (Unit {0})) → begins 0 here.rest ≡ true → Fails e (custom.read here) → Left here total → Fails e total
unfolding customs_read
fails NoMemory here total b h left = tt
fails (Fault at why) here total b h left = go left.steps left.enough left.read
  where
    go : (steps : ℕ) → length here.rest ≤ steps → customs_read steps here ≡ total → total ≡ Err (record { at = at; kind = why })
    go zero le k = absurd (omega (arith, some_left here.rest b, le))
    go (suc steps) le k =
        let one : customs_read (suc steps) here ≡ Err (record { at = at; kind = why }) = rw (b, h) refl in
        sym k ∙ one

pub is_done : (here : Place) (total : Reading (Unit {0})) → begins 0 here.rest ≡ false → Left here total → total ≡ Ok (tt, here)
unfolding customs_read
is_done here total b left = go left.steps left.read
  where
    go : (steps : ℕ) → customs_read steps here ≡ total → total ≡ Ok (tt, here)
    go zero h = sym h
    go (suc steps) h =
        let one : customs_read (suc steps) here ≡ Ok (tt, here) = rw b refl in
        sym h ∙ one
