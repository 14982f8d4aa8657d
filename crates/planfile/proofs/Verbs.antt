-- A verb is told by its length and its bytes, one by one.
use Rattle.std.proofs.Common.{◌≡◌, ℕ, if◌then◌else◌, List, codes}
use Rattle.planfile.specs.declared.word.Verb.{Verb}
use Rattle.planfile.specs.declared.word.Verb.TheVariants.{Table, Hold, Keep, Release, Withdraw, Bound, Rows, Other}
use Rattle.planfile.specs.Requests.{verb_of}
use Rattle.planfile.proofs.Words.{is, same_is}

-- the verb that a field is, by the field's length and bytes
abbrev pub verb_by : List ℕ → Verb
verb_by f =
    if is f (codes "table") then Table
    else if is f (codes "hold") then Hold
    else if is f (codes "keep") then Keep
    else if is f (codes "release") then Release
    else if is f (codes "withdraw") then Withdraw
    else if is f (codes "bound") then Bound
    else if is f (codes "rows") then Rows
    else Other

-- the verb that a field is, so told
pub verb_is : (f : List ℕ) → verb_of f ≡ verb_by f
verb_is f = simp same_is
