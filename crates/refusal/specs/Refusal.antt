-- The refusals of document 01 and their numbers. Definitions speak of refusals by number, the code by name.
use Rattle.std.specs.Prelude.{ℕ, Option, Some, None, Result, Ok, Err}
use Rattle.refusal.specs.declared.Refusal.{Refusal}
use Rattle.refusal.specs.declared.Refusal.TheVariants.{Length, Version, Code, CoreDll1, CoreDbl96, Mpi1, Mpi2, UsbDll2, UsbClock, CoreClock}
use Rattle.refusal.specs.declared.Refusal.TheVariants.{Hclk, Pclk1, Pclk2, Dll2, LpsysRequest, Task, Journal, Answers}
use Rattle.refusal.specs.declared.Refusal.TheVariants.{Hxt48NotReady, OnHrc48, Difference, HclkUnreadable, PresentHclk, AnswersRanOut}
use Rattle.refusal.specs.declared.Refusal.TheVariants.{Unfit, Oscillator, Load, IdInUse, Tasks, IdUnknown, LpsysHclkUnreadable}

-- document 01's number of each refusal
abbrev pub number : Refusal → ℕ
-- "1 record or buffer length (a plan's slice is its 20 bytes), or one that does not fit the task count; 2 version; 3 a byte outside its codes"
number Length = 1
number Version = 2
number Code = 3
-- "Plan, in this order: 4 DLL1 core without DLL1; 5 DBL96; 6 mpi1, 7 mpi2 on an absent DLL; with usb, 8 source an absent DLL2, 9 source not a
-- multiple of 60 MHz; 10 DLL1 core below 24 MHz; 11 HCLK above 240 MHz; 12 PCLK1 ..; 13 PCLK2 ..; 14 HCLK above 48 and DLL2 above 288 before halving."
number CoreDll1 = 4
number CoreDbl96 = 5
number Mpi1 = 6
number Mpi2 = 7
number UsbDll2 = 8
number UsbClock = 9
number CoreClock = 10
number Hclk = 11
number Pclk1 = 12
number Pclk2 = 13
number Dll2 = 14
-- "15 LPSYS request 0 or above 48. 16 task id 0, cycles 0, or period outside 1 to 10,000,000. 17 journal under 128 words; 18 more than 4,096 answers."
number LpsysRequest = 15
number Task = 16
number Journal = 17
number Answers = 18
-- "31 `calibrate_hrc48` without HXT48; 32 `init` must calibrate on HRC48 without HXT48; 33 final difference above 160; 34 HCLK unreadable at a
-- delay or a booking; 35 present HCLK above 240 MHz at a supply transition; 36 answers run out in a wait or measurement"
number Hxt48NotReady = 31
number OnHrc48 = 32
number Difference = 33
number HclkUnreadable = 34
number PresentHclk = 35
number AnswersRanOut = 36
-- "37 not fit; 38 HXT48 not ready, or HRC48 planned and not ready; 39 load above target HCLK. .. 40 id in use, 41 sixteen tasks .. 42 id unknown";
-- "43 `ensure_safe_lcpu_frequency` with LPSYS HCLK unreadable"
number Unfit = 37
number Oscillator = 38
number Load = 39
number IdInUse = 40
number Tasks = 41
number IdUnknown = 42
number LpsysHclkUnreadable = 43

-- the number of a refusal, 0 for none
abbrev pub number_of : {A : Type 0} → Result A Refusal → ℕ
number_of (Ok x) = 0
number_of (Err r) = number r

abbrev pub number_or_zero : Option Refusal → ℕ
number_or_zero None = 0
number_or_zero (Some r) = number r

-- an answer whose refusal goes by its number
abbrev pub numbered : {A : Type 0} → Result A Refusal → Result A ℕ
numbered (Ok x) = Ok x
numbered (Err r) = Err (number r)
