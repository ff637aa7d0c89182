use Rattle.std.proofs.Common.{sym, ap, ◌∙◌, option_map}
use Rattle.serde_json.proofs.Views.{view-lookup}
use Rattle.serde_json.specs.Find.{get_member}
use Rattle.serde_json.specs.View.{view, members_view}
use Rattle.json_shapes.proofs.Members.{others_kept}
use Rattle.json_shapes.proofs.taking.take_member.Goals as goal

pub returns-clause-taken : goal.returns-clause-taken
returns-clause-taken c = ap (option_map view) c.remove.ensures.value ∙ view-lookup c.args.name.now c.args.members.now.entries

pub returns-clause-others : goal.returns-clause-others
returns-clause-others c = λ other apart. ap (λ es. get_member other (members_view es)) c.remove.ensures.entries ∙ others_kept c.args.name.now other c.args.members.now.entries apart

pub returns-clause-gone : goal.returns-clause-gone
returns-clause-gone c = sym (view-lookup c.args.name.now c.remove.new.self.entries) ∙ ap (option_map view) c.remove.ensures.updates.1
