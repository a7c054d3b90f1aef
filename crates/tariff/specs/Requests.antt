-- What words request.
--
-- Number          a word is a number of at most 32 bits in plain decimal
-- NoNumber        a word is no such number
-- ReadsNumber     what is read of a word: its number, or that it is none
-- ActiveWord      a word is an active count, or - where there is none
-- NoActive        a word is neither
-- ReadsActive     what is read of a word: its active count or the absence of one, or the fault that it is neither
-- Requests        three words request a sheet
use Rattle.std.specs.Prelude.{◌≡◌, ℕ, ◌^◌, ◌<◌, List, Some, None, Ok, Err, codes, decimal, Option, Result, ◌≢◌}
use Rattle.tariff.specs.declared.request.Request.{Request}
use Rattle.tariff.specs.declared.fault.Fault.{Fault}
use Rattle.tariff.specs.declared.fault.Fault.TheVariants as fault

abbrev pub Number : List ℕ → ℕ → Type 0
Number w n = (n < 2 ^ 32) × (w ≡ decimal n)

abbrev pub NoNumber : List ℕ → Type 0
NoNumber w = (n : ℕ) → Number w n → ⊥

abbrev pub ReadsNumber : List ℕ → Option ℕ → Type 0
ReadsNumber w (Some n) = Number w n
ReadsNumber w None = NoNumber w

abbrev pub ActiveWord : List ℕ → Option ℕ → Type 0
ActiveWord w None = w ≡ codes "-"
ActiveWord w (Some a) = Number w a

abbrev pub NoActive : List ℕ → Type 0
NoActive w = (w ≢ codes "-") × NoNumber w

abbrev pub ReadsActive : List ℕ → Result (Option ℕ) Fault → Type 0
ReadsActive w (Ok a) = ActiveWord w a
ReadsActive w (Err f) = NoActive w × (f ≡ fault.Active)

abbrev pub Requests : List ℕ → List ℕ → List ℕ → Request → Type 0
Requests rate active length q = Number rate q.rate × ActiveWord active q.active × Number length q.length
