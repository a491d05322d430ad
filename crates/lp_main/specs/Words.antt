-- What is served of what the words ask for.
use Rattle.std.specs.Prelude.{◌≡◌, ◌≤◌, Option, Some, None, Bool, true, false}
use Rattle.lp_text.specs.declared.Form.{Form}
use Rattle.lp_text.specs.declared.Form.TheVariants.{Fixed, Free}
use Rattle.lp_words.specs.declared.wishes.Wish.{Wish}
use Rattle.lp_words.specs.declared.wishes.Wish.TheVariants.{Audit, Check, Deck, Make, Range, Solve}
use Rattle.lp_main.specs.declared.words.Task.{Task}
use Rattle.lp_main.specs.declared.words.Task.TheVariants as task
use Rattle.lp_main.specs.declared.refusal.Refusal.{Refusal}
use Rattle.lp_main.specs.declared.refusal.Refusal.TheVariants as refusal

-- the form of a deck, by whether the words ask for the free one
abbrev pub deck_form : Bool → Form
deck_form true = Free
deck_form false = Fixed

-- what is asked for: a solve of a deck, a check of a report behind a deck, a deck in its layout, a transport deck, the ranges
-- of a deck, or an audit of a report behind a deck
abbrev pub task_of : Option Wish → Option Task
task_of (Some (Solve workers reinverters budget log free version)) = Some (task.Solve (record { form = deck_form free; workers = workers; budget = budget; log = log; version = version }))
task_of (Some (Check free)) = Some (task.Check (deck_form free))
task_of (Some (Deck free)) = Some (task.Deck (deck_form free))
task_of (Some (Make n)) = Some (task.Make n)
task_of (Some (Range free)) = Some (task.Range (deck_form free))
task_of (Some (Audit free)) = Some (task.Audit (deck_form free))
task_of other = None

-- transport decks have sizes from 1 to 20
abbrev pub IsServed : Task → Type 0
IsServed (task.Make n) = (1 ≤ n) × (n ≤ 20)
IsServed other = Unit {0}

-- why nothing is served: nothing that is served is asked for, or memory ran out
abbrev pub IsUnserved : Option Task → Refusal → Type 0
IsUnserved what refusal.Usage = what ≡ None
IsUnserved what refusal.Memory = Unit {0}
IsUnserved what other = ⊥
