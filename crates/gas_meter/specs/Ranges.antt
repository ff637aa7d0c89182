-- Which schedules may be in force. Those numbers are at least 1 that bound how often a loop can turn and a call can nest.
use Rattle.std.specs.Prelude.{◌≡◌, ℕ, ◌≤◌}
use Rattle.gas_meter.specs.declared.schedule.Schedule.{Schedule}

-- the cost of an instruction
abbrev pub IsStepCost : ℕ → Type 0
IsStepCost n = (1 ≤ n) × (n ≤ 1000000)

-- any other cost
abbrev pub IsHostCost : ℕ → Type 0
IsHostCost n = n ≤ 1000000000

pub record IsInRange (costs : Schedule) : Type 0 where
  pub plain : IsStepCost costs.plain
  pub marker : costs.marker ≡ 0
  pub memory : IsStepCost costs.memory
  pub divide : IsStepCost costs.divide
  pub table_jump : IsStepCost costs.table_jump
  pub call : IsStepCost costs.call
  pub call_indirect : IsStepCost costs.call_indirect
  pub grow : IsStepCost costs.grow
  pub grow_page : IsHostCost costs.grow_page
  pub message : IsHostCost costs.message
  pub coin : IsHostCost costs.coin
  pub store_code : IsHostCost costs.store_code
  pub store_code_byte : IsHostCost costs.store_code_byte
  pub entry : IsHostCost costs.entry
  pub entry_pinned : IsHostCost costs.entry_pinned
  pub query : IsHostCost costs.query
  pub db_read : IsHostCost costs.db_read
  pub db_write : IsHostCost costs.db_write
  pub db_remove : IsHostCost costs.db_remove
  pub db_scan : IsHostCost costs.db_scan
  pub db_next : IsHostCost costs.db_next
  pub address : IsHostCost costs.address
  pub debug : IsHostCost costs.debug
