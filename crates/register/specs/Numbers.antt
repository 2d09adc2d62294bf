-- The registers' numbers by name, as `register` has them in src.
use Rattle.std.specs.Prelude.{ℕ}

abbrev pub SYSCLK : ℕ
SYSCLK = 1

abbrev pub HPSYS_CFGR : ℕ
HPSYS_CFGR = 2

abbrev pub DLL1 : ℕ
DLL1 = 3

abbrev pub DLL2 : ℕ
DLL2 = 4

abbrev pub FLASH : ℕ
FLASH = 5

abbrev pub PERI : ℕ
PERI = 6

abbrev pub USB_SOURCE : ℕ
USB_SOURCE = 7

abbrev pub USB_DIVIDER : ℕ
USB_DIVIDER = 8

abbrev pub TICK : ℕ
TICK = 9

abbrev pub LOW_POWER : ℕ
LOW_POWER = 10

abbrev pub HPBG : ℕ
HPBG = 11

abbrev pub HPSYS_SUPPLY : ℕ
HPSYS_SUPPLY = 12

abbrev pub BUCK_VOUT : ℕ
BUCK_VOUT = 13

abbrev pub HPSYS_VOUT : ℕ
HPSYS_VOUT = 14

abbrev pub SET_VOUT_M : ℕ
SET_VOUT_M = 15

abbrev pub HPSYS_LDO : ℕ
HPSYS_LDO = 16

abbrev pub HPSYS_TIMING : ℕ
HPSYS_TIMING = 17

abbrev pub HRC_CLOCK_SELECT : ℕ
HRC_CLOCK_SELECT = 18

abbrev pub HRC_TRIM : ℕ
HRC_TRIM = 19

abbrev pub HRC_CALIBRATION_LENGTH : ℕ
HRC_CALIBRATION_LENGTH = 20

abbrev pub HRC_CALIBRATION_ON : ℕ
HRC_CALIBRATION_ON = 21

abbrev pub HXT48_REQUEST : ℕ
HXT48_REQUEST = 22

abbrev pub LRC32_ON : ℕ
LRC32_ON = 23

abbrev pub DLL_BUFFER_ON : ℕ
DLL_BUFFER_ON = 24

abbrev pub LPSYS_SYSCLK : ℕ
LPSYS_SYSCLK = 25

abbrev pub LPSYS_CFGR : ℕ
LPSYS_CFGR = 26

abbrev pub LPSYS_PERI : ℕ
LPSYS_PERI = 27

abbrev pub LPSYS_SUPPLY : ℕ
LPSYS_SUPPLY = 28

abbrev pub LPSYS_VOUT : ℕ
LPSYS_VOUT = 29

abbrev pub LPSYS_LDO : ℕ
LPSYS_LDO = 30

abbrev pub LPSYS_TIMING : ℕ
LPSYS_TIMING = 31

abbrev pub LPSYS_HXT48_REQUEST : ℕ
LPSYS_HXT48_REQUEST = 32

abbrev pub HP2LP_REQUEST : ℕ
HP2LP_REQUEST = 33

abbrev pub LPSYS_MAC : ℕ
LPSYS_MAC = 34
