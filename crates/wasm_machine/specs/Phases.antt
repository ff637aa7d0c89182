-- Which calls of a machine are allowed when: a host calls one function, and over a call that waits for an answer one more.
use Rattle.std.specs.Prelude.{⊤}
use Rattle.wasm_machine.specs.declared.turn.Phase.{Phase}
use Rattle.wasm_machine.specs.declared.turn.Phase.TheVariants.{Idle, Ready, Asked, ReadyOver, AskedOver, Spent}
use Rattle.wasm_machine.specs.Acts.{Standing, idle, ready, done, trap, out_of_gas, ask}

-- the memory may be changed
abbrev pub TakesMemory : Phase → Type 0
TakesMemory Idle = ⊤
TakesMemory Ready = ⊥
TakesMemory Asked = ⊤
TakesMemory ReadyOver = ⊥
TakesMemory AskedOver = ⊤
TakesMemory Spent = ⊥

-- a function may be called
abbrev pub TakesCall : Phase → Type 0
TakesCall Idle = ⊤
TakesCall Ready = ⊥
TakesCall Asked = ⊤
TakesCall ReadyOver = ⊥
TakesCall AskedOver = ⊥
TakesCall Spent = ⊥

-- a call is under way, and the newest one isn't waiting for an answer
abbrev pub IsReady : Phase → Type 0
IsReady Idle = ⊥
IsReady Ready = ⊤
IsReady Asked = ⊥
IsReady ReadyOver = ⊤
IsReady AskedOver = ⊥
IsReady Spent = ⊥

-- the newest call waits for an answer
abbrev pub IsAsked : Phase → Type 0
IsAsked Idle = ⊥
IsAsked Ready = ⊥
IsAsked Asked = ⊤
IsAsked ReadyOver = ⊥
IsAsked AskedOver = ⊤
IsAsked Spent = ⊥

-- after a call of a function
abbrev pub called : Phase → Phase
called Idle = Ready
called Asked = ReadyOver
called Ready = Ready
called ReadyOver = ReadyOver
called AskedOver = AskedOver
called Spent = Spent

-- after an answer
abbrev pub answered : Phase → Phase
answered Asked = Ready
answered AskedOver = ReadyOver
answered Idle = Idle
answered Ready = Ready
answered ReadyOver = ReadyOver
answered Spent = Spent

-- after the end of the newest call
abbrev pub over : Phase → Phase
over Ready = Idle
over ReadyOver = Asked
over Idle = Idle
over Asked = Asked
over AskedOver = AskedOver
over Spent = Spent

-- after a call of an import
abbrev pub asking : Phase → Phase
asking Ready = Asked
asking ReadyOver = AskedOver
asking Idle = Idle
asking Asked = Asked
asking AskedOver = AskedOver
asking Spent = Spent

-- after a run that came to this
abbrev pub after_turn : Standing → Phase → Phase
after_turn (done value) phase = over phase
after_turn (ask i args) phase = asking phase
after_turn (trap kind) phase = Spent
after_turn out_of_gas phase = Spent
after_turn idle phase = phase
after_turn ready phase = phase
