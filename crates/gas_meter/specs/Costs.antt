-- What each instruction and each step of the host costs, by a schedule, and the standard schedule.
-- Opcodes are those of the binary format of WebAssembly core 1.0 (section 5.4).
use Rattle.std.specs.Prelude.{ℕ, ◌+◌, ◌*◌, ◌==◌, ◌&&◌, ◌||◌, Bool, nat_le, if◌then◌else◌}
use Rattle.gas_meter.specs.declared.schedule.Schedule.{Schedule}

abbrev pub standard_schedule : Schedule
standard_schedule =
    record {
      plain = 1;
      marker = 0;
      memory = 2;
      divide = 4;
      table_jump = 2;
      call = 10;
      call_indirect = 15;
      grow = 10;
      grow_page = 1000;
      message = 1000;
      coin = 100;
      store_code = 10000;
      store_code_byte = 3;
      entry = 60000;
      entry_pinned = 5000;
      query = 1000;
      db_read = 1000;
      db_write = 2000;
      db_remove = 1000;
      db_scan = 1000;
      db_next = 30;
      address = 500;
      debug = 10;
    }

-- ---- instructions

-- `else` and `end`
abbrev pub is_marker : ℕ → Bool
is_marker op = (op == 0x05) || (op == 0x0B)

-- the loads and the stores stand together, from `i32.load` to `i64.store32`
abbrev pub is_memory_access : ℕ → Bool
is_memory_access op = nat_le 0x28 op && nat_le op 0x3E

-- `div_s`, `div_u`, `rem_s` and `rem_u` of i32, then of i64
abbrev pub is_division : ℕ → Bool
is_division op = (nat_le 0x6D op && nat_le op 0x70) || (nat_le 0x7F op && nat_le op 0x82)

-- what an instruction costs before its effect, without what is added for locals and pages
abbrev pub cost : Schedule → ℕ → ℕ
cost costs op =
    if is_marker op then costs.marker
    else if op == 0x0E then costs.table_jump
    else if op == 0x10 then costs.call
    else if op == 0x11 then costs.call_indirect
    else if is_memory_access op then costs.memory
    else if op == 0x40 then costs.grow
    else if is_division op then costs.divide
    else costs.plain

-- what is added for a called function of the module: 1 for each declared local
abbrev pub locals_cost : ℕ → ℕ
locals_cost locals = locals

-- what is added to `memory.grow` for the pages asked for, where they fit
abbrev pub pages_cost : Schedule → ℕ → ℕ
pages_cost costs pages = costs.grow_page * pages

-- ---- the host

-- entering a contract, by whether its code is pinned
abbrev pub entry_cost : Schedule → Bool → ℕ
entry_cost costs pinned = if pinned then costs.entry_pinned else costs.entry

-- a code of so many bytes
abbrev pub store_code_cost : Schedule → ℕ → ℕ
store_code_cost costs bytes = costs.store_code + costs.store_code_byte * bytes

-- so many coins of a send, a burn or the funds of a call
abbrev pub coins_cost : Schedule → ℕ → ℕ
coins_cost costs coins = costs.coin * coins

-- so many coins of an answer on all balances
abbrev pub answered_coins_cost : ℕ → ℕ
answered_coins_cost coins = 100 * coins

-- a read, with the bytes of key and value
abbrev pub read_cost : Schedule → ℕ → ℕ
read_cost costs bytes = costs.db_read + 3 * bytes

-- a write, with the bytes of key and value
abbrev pub write_cost : Schedule → ℕ → ℕ
write_cost costs bytes = costs.db_write + 30 * bytes

-- a scan, with the bytes of its bounds
abbrev pub scan_cost : Schedule → ℕ → ℕ
scan_cost costs bytes = costs.db_scan + 3 * bytes

-- an entry of a scan, with the bytes of key and value
abbrev pub next_cost : Schedule → ℕ → ℕ
next_cost costs bytes = costs.db_next + 3 * bytes

-- a text for debugging, with its bytes
abbrev pub debug_cost : Schedule → ℕ → ℕ
debug_cost costs bytes = costs.debug + bytes
