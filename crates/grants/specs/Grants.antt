-- What the judging of Register's requests promises.
use Rattle.std.specs.Prelude.{ℕ, ◌≡◌, List, true, false, Option, None, Some}
use Rattle.rules.specs.Table.{Store}
use Rattle.rules.specs.Sound.{all_of}
use Rattle.rules.specs.Messages.{Request}
use Rattle.rules.specs.Calls.{contained, tests}

-- how many tests it took, if each request is contained in what the current procedure holds; none if one is not
abbrev pub Granted : Store → List Request → Option ℕ → Type 0
Granted s rs None = all_of (contained s) rs ≡ false
Granted s rs (Some n) = (all_of (contained s) rs ≡ true) × (n ≡ tests s rs)
