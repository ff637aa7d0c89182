use Rattle.code_registry.proofs.authority.first_outside.Goals as goal
