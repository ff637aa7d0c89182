use Rattle.std.proofs.Common.{◌≡◌, Bool, true, List, ℕ, Option, Err, sym, ap, ◌∙◌, option_map, string_bytes}
use Rattle.chain_records.specs.Records.{plain_contract}
use Rattle.chain_msgs.specs.Plain.{out_view}
use Rattle.contract_admin.specs.Administration.{label_fits}
use Rattle.submsg_dispatch.specs.Parts.{done, needs, ◌>>=◌}
use Rattle.submsg_dispatch.specs.Failures.{label_bad}
use Rattle.submsg_dispatch.specs.Calling.{described, fitting, optional_address}
use Rattle.submsg_dispatch.specs.Stages.{nothing_view}
use Rattle.submsg_dispatch.proofs.Making.{gives_so, gives_then, gives_stop}
use Rattle.submsg_dispatch.proofs.creation.described.Goals as goal

pub returns-in_err-fitting-clause-gives : goal.returns-in_err-fitting-clause-gives
returns-in_err-fitting-clause-gives c =
    let prefix = c.args.prefix.now in
    let creator : List ℕ = c.args.sender.now in
    let id : ℕ = c.args.code_id in
    let label : List ℕ = c.args.label.now in
    let admin = option_map string_bytes c.args.admin.now in
    let salt = out_view c.args.salt.now in
    let stop = c.in_err-fitting.field-0.0 in
    let fits : label_fits label ≡ true = sym c.is_label.ensures ∙ c.if-not-is_label.false in
    let rest = λ (u : Unit {0}). optional_address admin >>= λ (a : Option (List ℕ)). done (record { code_id = id; creator = creator; admin = a; label = label }) in
    gives_so prefix plain_contract c.from_residual.result stop (described creator admin id label salt) c.from_residual.ensures.1
    (gives_then prefix nothing_view plain_contract tt (Err stop) (needs (label_fits label) label_bad) (λ (u : Unit {0}). fitting salt >>= rest) (λ s left is. ap (λ (b : Bool). needs b label_bad s left) fits)
    (gives_stop prefix nothing_view plain_contract stop (fitting salt) rest (c.in_err-fitting.ensures prefix)))
