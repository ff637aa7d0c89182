-- Arguments that are given one after the other.
use Rattle.std.proofs.Common.{◌≡◌, ◌+◌, ◌<◌, ◌≤◌, suc, sym, ◌∙◌, ap, subst, ℕ, List, [], ◌∷◌, ◌++◌, map, drop, get_or, length, Ok, Err, add-one}
use Rattle.std.proofs.Math.Seq.{drop-cons}
use Rattle.std.proofs.lemmas.List.{drop_all}
use Rattle.std.specs.Global.{Vec}
use Rattle.gas_meter.specs.declared.schedule.Schedule.{Schedule}
use Rattle.kv_layers.specs.Plain.{bytes_view}
use Rattle.wasm_types.specs.declared.value.Value.{Value}
use Rattle.wasm_types.specs.declared.value.Value.TheVariants.{I32}
use Rattle.wasm_machine.specs.declared.machine.Machine.{Machine}
use Rattle.host_imports.specs.Work.{Work, ◌>>=◌}
use Rattle.host_imports.specs.Allocation.{gives}
use Rattle.contract_call.specs.declared.stop.Stop.{Stop}
use Rattle.contract_call.specs.Calls.{gives_all}
use Rattle.contract_call.specs.Parts.{same_view, values_view, MovesOn, Moves}
use Rattle.contract_call.proofs.Works.{moves_on_then, moves_on_to, moves_stop, done_moves}

abbrev pub GivesOn : Machine → Machine → ℕ → ℕ → Work (List Value) → Schedule → List (Vec ℕ) → List Value → Type 0
GivesOn k0 k1 g0 g1 work costs args values = MovesOn k0 k1 g0 g1 work (gives_all costs (map bytes_view args) values)

the_next : (args : List (Vec ℕ)) (i : ℕ) (item : Vec ℕ) → item ≡ get_or args i item → i < length args → drop i args ≡ item ∷ drop (i + 1) args
the_next args i item e h = drop-cons args i item h ∙ ap (λ (x : Vec ℕ). x ∷ drop (suc i) args) (sym e) ∙ ap (λ (n : ℕ). item ∷ drop n args) (sym (add-one i))

pub gave_one : {k0 k1 k2 : Machine} {g0 g1 g2 : ℕ} {work : Work (List Value)} (costs : Schedule) (args : List (Vec ℕ)) (i : ℕ) (item : Vec ℕ) (bytes : List ℕ) (values more : List Value) (pointer : ℕ) → item ≡ get_or args i item → i < length args → bytes ≡ item.items → more ≡ values ++ I32 pointer ∷ [] → GivesOn k0 k1 g0 g1 work costs (drop i args) values → Moves k1 k2 g1 g2 (gives costs bytes) same_view (Ok pointer) → GivesOn k0 k2 g0 g2 work costs (drop (i + 1) args) more
unfolding gives_all
gave_one {k0 = k0} {k1 = k1} {k2 = k2} {g0 = g0} {g1 = g1} {g2 = g2} {work = work} costs args i item bytes values more pointer e h b v on m =
    let next : ℕ → Work (List Value) = λ pointer. gives_all costs (map bytes_view (drop (i + 1) args)) (values ++ I32 pointer ∷ []) in
    let here : MovesOn k0 k1 g0 g1 work (gives costs item.items >>= next) = subst (λ (l : List (Vec ℕ)). MovesOn k0 k1 g0 g1 work (gives_all costs (map bytes_view l) values)) (the_next args i item e h) on in
    let one : Moves k1 k2 g1 g2 (gives costs item.items) same_view (Ok pointer) = subst (λ (l : List ℕ). Moves k1 k2 g1 g2 (gives costs l) same_view (Ok pointer)) b m in
    subst (λ (l : List Value). MovesOn k0 k2 g0 g2 work (gives_all costs (map bytes_view (drop (i + 1) args)) l)) (sym v) (moves_on_then {x = pointer} next here one)

pub gave_no_more : {k0 k1 k2 : Machine} {g0 g1 g2 : ℕ} {work : Work (List Value)} (costs : Schedule) (args : List (Vec ℕ)) (i : ℕ) (item : Vec ℕ) (bytes : List ℕ) (values : List Value) (stop : Stop) → item ≡ get_or args i item → i < length args → bytes ≡ item.items → GivesOn k0 k1 g0 g1 work costs (drop i args) values → Moves k1 k2 g1 g2 (gives costs bytes) same_view (Err stop) → Moves k0 k2 g0 g2 work values_view (Err stop)
unfolding gives_all
gave_no_more {k0 = k0} {k1 = k1} {k2 = k2} {g0 = g0} {g1 = g1} {g2 = g2} {work = work} costs args i item bytes values stop e h b on m =
    let next : ℕ → Work (List Value) = λ pointer. gives_all costs (map bytes_view (drop (i + 1) args)) (values ++ I32 pointer ∷ []) in
    let here : MovesOn k0 k1 g0 g1 work (gives costs item.items >>= next) = subst (λ (l : List (Vec ℕ)). MovesOn k0 k1 g0 g1 work (gives_all costs (map bytes_view l) values)) (the_next args i item e h) on in
    let one : Moves k1 k2 g1 g2 (gives costs item.items) same_view (Err stop) = subst (λ (l : List ℕ). Moves k1 k2 g1 g2 (gives costs l) same_view (Err stop)) b m in
    moves_on_to here (moves_stop next stop one)

pub gave_all : {k0 k1 : Machine} {g0 g1 : ℕ} {work : Work (List Value)} (costs : Schedule) (args : List (Vec ℕ)) (i : ℕ) (values : Vec Value) → length args ≤ i → GivesOn k0 k1 g0 g1 work costs (drop i args) values.items → Moves k0 k1 g0 g1 work values_view (Ok values)
unfolding gives_all
gave_all {k0 = k0} {k1 = k1} {g0 = g0} {g1 = g1} {work = work} costs args i values h on =
    moves_on_to (subst (λ (l : List (Vec ℕ)). MovesOn k0 k1 g0 g1 work (gives_all costs (map bytes_view l) values.items)) (drop_all i args h) on) (done_moves {view = values_view} values)
