-- Frequencies of HPSYS read from a head, up to HCLK: rcc/clock_read.rs.
use Rattle.std.specs.Prelude.{ℕ, Bool, cond, eqb, get_or, Option, Some, None}
use Rattle.time.specs.declared.Hertz.{Hertz}
use Rattle.clock.specs.Clock.{dll_hz, divided}
use Rattle.head.specs.declared.Head.{Head}
use Rattle.register.specs.Word.{byte_a, byte_b, byte_c}
use Rattle.register.specs.Numbers.{DLL1, HPSYS_CFGR, SYSCLK}

-- register `n` of a head; "a value without a letter in c", so such a register's value is its whole word
abbrev pub reg : Head → ℕ → ℕ
reg h n = get_or h.regs n 0

-- a frequency of `n` Hz
abbrev pub hertz : ℕ → Option Hertz
hertz n = Some (record { 0 = n })

-- `get_hxt48_freq` and `get_hrc48_freq`: 48 MHz where the ready flag is 1
abbrev pub ready_reading : Bool → Option Hertz
ready_reading ready = cond ready (hertz 48000000) None

-- `get_clk_dll1_freq` and `get_clk_dll2_freq`: on a, half b, stage c
unfoldable pub dll_reading : ℕ → Option Hertz
dll_reading word = cond (eqb (byte_a word) 1) (hertz (dll_hz (byte_c word) (eqb (byte_b word) 1))) None

-- a frequency behind a divider; none where there is none
abbrev pub divided_reading : Option Hertz → ℕ → Option Hertz
divided_reading (Some f) d = hertz (divided f.0 d)
divided_reading None d = None

-- `get_clk_sys_freq`: 0 HRC48, 1 HXT48, 3 DLL1; "DBL96 reads as none"
unfoldable pub sys_of : Head → Option Hertz
sys_of h =
    cond (eqb (reg h SYSCLK) 0) (ready_reading h.hrc48_ready)
    (cond (eqb (reg h SYSCLK) 1) (ready_reading h.hxt48_ready)
    (cond (eqb (reg h SYSCLK) 3) (dll_reading (reg h DLL1))
    None))

-- `get_hclk_freq`: hdiv a of register 2
unfoldable pub hclk_of : Head → Option Hertz
hclk_of h = divided_reading (sys_of h) (byte_a (reg h HPSYS_CFGR))
