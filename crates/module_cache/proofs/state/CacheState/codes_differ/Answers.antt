use Rattle.module_cache.specs.Right.{vec_bytes}
use Rattle.module_cache.proofs.Lists.{codes_differ}
use Rattle.module_cache.proofs.state.CacheState.codes_differ.Goals as goal

pub returns-clause-recent : goal.returns-clause-recent
returns-clause-recent c = codes_differ vec_bytes c.args.self.now.recent.entries c.len.ensures.valid.0
