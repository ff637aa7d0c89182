use Rattle.std.proofs.Common.{◌≡◌, ◌+◌, List, [], ◌∷◌, ◌++◌, ℕ, map, take, sym, ap, subst, ◌∙◌, arith}
use Rattle.std.proofs.lemmas.Bool.{OnTrue_at}
use Rattle.std.proofs.lemmas.List.{take_all}
use Rattle.gatekeeper.specs.CodeBytes.{code_bytes}
use Rattle.gatekeeper.specs.Cache.{Cache, Tally, all_tallied, each_once, not_pinned, warmed}
use Rattle.module_cache.specs.Pinned.{pinned_codes}
use Rattle.module_cache.specs.Counted.{tally_with}
use Rattle.module_cache.specs.Told.{tally_of}
use Rattle.module_cache.proofs.Fetched.{seen_more}
use Rattle.module_cache.proofs.Warmed.{listed_more, told_more, warmed_same, warmed_all}
use Rattle.module_cache.proofs.owned.Owned.warm.Goals as goal

pub loop-code-preserved : goal.loop-code-preserved
loop-code-preserved g c =
    let pins = c.args.pins.now in
    let i = c.loop-code.code-index in
    let seen : List (List ℕ) = map code_bytes (take i pins) in
    let code = code_bytes c.code-item.result in
    let t : Tally = tally_of c.args.self.now in
    let before : Tally = tally_of c.loop-code.self in
    let more : map code_bytes (take (i + 1) pins) ≡ seen ++ code ∷ [] = seen_more code_bytes pins i c.code-item.result (omega arith) c.code-item.is in
    let table = pinned_codes c.loop-code.table in
    record {
      listed = subst (λ (cs : List (List ℕ)). pinned_codes c.add_pin.new.pins ≡ each_once cs) (sym more) (listed_more seen code table (pinned_codes c.add_pin.new.pins) c.loop-code.invariant.listed c.in_ok-add_pin.ensures.listed);
      told =
          subst (λ (cs : List (List ℕ)). tally_of c.add_pin.new.self ≡ all_tallied t (not_pinned t (each_once cs))) (sym more)
          (told_more t seen code table before (tally_of c.add_pin.new.self) c.loop-code.invariant.listed c.loop-code.invariant.told c.in_ok-add_pin.ensures.told);
    }

pub returns-then-has_pins : goal.returns-then-has_pins
returns-then-has_pins g c =
    let t : Tally = tally_of c.args.self.now in
    sym (warmed_same t c.codes_differ.ensures.pinned) ∙ ap (warmed t) (OnTrue_at c.if-has_pins.true c.has_pins.ensures)

pub returns : goal.returns
returns g c =
    let pins = c.args.pins.now in
    let t : Tally = tally_of c.args.self.now in
    let now : Tally = tally_of c.loop-code.self in
    let all : map code_bytes (take c.loop-code.code-index pins) ≡ map code_bytes pins = ap (map code_bytes) (take_all c.loop-code.code-index pins (omega arith)) in
    ap (λ (h : Cache). tally_with h c.loop-code.self.counts) c.set_pins.ensures
    ∙ warmed_all t now (map code_bytes pins) (pinned_codes c.loop-code.table) (c.loop-code.invariant.listed ∙ ap each_once all) (c.loop-code.invariant.told ∙ ap (λ (cs : List (List ℕ)). all_tallied t (not_pinned t (each_once cs))) all)
