-- What is wrong with words that request no sheet.
--
-- Misread      the first of three words that is not what it should be
-- ReadsThree   three words request a sheet, or one of them is not what it should be
-- word         the word at a place
-- Reads        words request a sheet, or are not three, or one of them is not what it should be
use Rattle.std.specs.Prelude.{◌≡◌, ℕ, List, [], length, Ok, Err, Option, Result, ◌≢◌, slice_index_or}
use Rattle.tariff.specs.declared.request.Request.{Request}
use Rattle.tariff.specs.declared.fault.Fault.{Fault}
use Rattle.tariff.specs.declared.fault.Fault.TheVariants as fault
use Rattle.tariff.specs.Requests.{Number, NoNumber, ActiveWord, NoActive, Requests}

abbrev pub Misread : List ℕ → List ℕ → List ℕ → Fault → Type 0
Misread u v w fault.Rate = NoNumber u
Misread u v w fault.Active = ((r : ℕ) × Number u r) × NoActive v
Misread u v w fault.Length = ((r : ℕ) × Number u r) × ((a : Option ℕ) × ActiveWord v a) × NoNumber w
Misread u v w _ = ⊥

abbrev pub ReadsThree : List ℕ → List ℕ → List ℕ → Result Request Fault → Type 0
ReadsThree u v w (Ok q) = Requests u v w q
ReadsThree u v w (Err f) = Misread u v w f

abbrev pub word : List (List ℕ) → ℕ → List ℕ
word ws i = slice_index_or ws i []

pub record Reads (ws : List (List ℕ)) (r : Result Request Fault) : Type 0 where
  pub three : length ws ≡ 3 → ReadsThree (word ws 0) (word ws 1) (word ws 2) r
  pub other : (length ws ≢ 3) → r ≡ Err fault.Arguments
