-- The values that the plain table works along a run, in order, each with its place. A run fits a width where all of them do.
use Rattle.std.specs.Prelude.{◌≡◌, ℕ, ◌+◌, ◌≤◌, ◌⊎◌, List, [], ◌∷◌, ◌++◌, map, length, get_or, Option, Some, None, Result, MatchResult, ◌||◌, ◌==◌, if◌then◌else◌}
use Rattle.std.specs.List.{flat_map}
use Rattle.std.specs.Option.{option_map}
use Rattle.lp_model.specs.declared.Entry.{Entry}
use Rattle.lp_model.specs.declared.Entry.TheVariants.{Flip, Swap, Turn}
use Rattle.lp_model.specs.declared.Kind.{Kind}
use Rattle.lp_model.specs.declared.Kind.TheVariants as kind
use Rattle.lp_model.specs.declared.Place.{Place}
use Rattle.rational.specs.Rational.{ℚ, zero_ℚ, ◌+ℚ◌, ◌-ℚ◌, ◌*ℚ◌, ◌/ℚ◌, abs_ℚ, eq_ℚ, lt_ℚ}
use Rattle.rational.specs.Width.{fits_width}
use Rattle.rational.specs.Sparse.{entry_at, upto}
use Rattle.rational.specs.Sum.{at}
use Rattle.rational.specs.Worked.{less, more, placed}
use Rattle.lp_model.specs.Deck.{Interval}
use Rattle.lp_run.specs.Instance.{Instance, bounds, coefficient, column_count, cost, is_needed, passed_side, residual, row_count, row_passes, sign_past, start_value, structural, structural_count}
use Rattle.lp_run.specs.State.{State, after, basic, rest, start_of}
use Rattle.lp_run.specs.Solution.{IsTable, Values, reduced}
use Rattle.lp_run.specs.Step.{EndsOptimal, EndsOtherwise, Leaves, Limit, Pivoting, Turns, direction, distance_at}
use Rattle.lp_run.specs.Ends.{point}
use Rattle.lp_model.specs.Log.{moves}
use Rattle.lp_run.specs.Run.{IsRun}

-- a value with its place
abbrev pub Listed : Type 0
Listed = Place × ℚ

abbrev pub place : ℕ → Kind → Option ℕ → Option ℕ → Place
place k what i j = record { number = k; kind = what; row = i; column = j }

-- a product to be worked: its place and its two factors
abbrev pub Term : Type 0
Term = Place × (ℚ × ℚ)

-- products taken from a number, one after another: each product, and what it leaves; one of a zero factor is skipped
abbrev pub taken : ℚ → List Term → List Listed
taken r [] = []
taken r ((here, (a, b)) ∷ terms) = placed here (less r a b) ++ taken (less r a b).answer terms

-- products added to a number, one after another
abbrev pub added : ℚ → List Term → List Listed
added r [] = []
added r ((here, (a, b)) ∷ terms) = placed here (more r a b) ++ added (more r a b).answer terms

-- the number alone where no product is listed
abbrev pub or_first : Place → ℚ → List Listed → List Listed
or_first here r [] = (here, r) ∷ []
or_first here r (v ∷ vs) = v ∷ vs

-- ── number 0: the table is made ──

abbrev pub listed_at : Place → Option ℚ → List Listed
listed_at here None = []
listed_at here (Some v) = (here, v) ∷ []

-- the start sums of row i: what the structurals take from its right side, how far the residual passes an end, and the sum with its range
abbrev pub start_sums : Instance → ℕ → List Listed
start_sums inst i =
    taken (at inst.right i) (map (λ j. (place 0 kind.Start (Some i) (Some j), (entry_at (structural inst j).entries i, start_value (structural inst j).bounds))) (upto (structural_count inst)))
    ++ listed_at (place 0 kind.Start (Some i) None) (option_map (λ passed. residual inst i -ℚ passed.1) (row_passes inst i))
    ++ listed_at (place 0 kind.Start (Some i) None) (get_or inst.range_sums i None)

-- all start sums, row by row
abbrev pub start_listing : Instance → List Listed
start_listing inst = flat_map (start_sums inst) (upto (row_count inst))

-- an entry of the table at the start
abbrev pub start_entry : Instance → ℕ → ℕ → ℚ
start_entry inst p j = if is_needed inst p then sign_past (passed_side inst p) *ℚ coefficient inst p j else coefficient inst p j

abbrev pub entries_listing : Instance → List Listed
entries_listing inst =
    flat_map (λ p. map (λ j. (place 0 kind.Entry (Some p) (Some j), start_entry inst p j)) (upto (column_count inst))) (upto (row_count inst))

-- the reduced cost of column j from its cost, position by position
abbrev pub cost_listing : Instance → ℕ → State → (ℕ → ℕ → ℚ) → ℕ → List Listed
cost_listing inst k s table j =
    let here = place k kind.Cost None (Some j) in
    or_first here (cost inst s.phase j) (taken (cost inst s.phase j) (map (λ p. (here, (cost inst s.phase (basic s p), table p j))) (upto (row_count inst))))

abbrev pub costs_listing : Instance → ℕ → State → (ℕ → ℕ → ℚ) → List Listed
costs_listing inst k s table = flat_map (cost_listing inst k s table) (upto (column_count inst))

-- what the making of the table lists, where s is the start and its basic values are β
abbrev pub table_listing : Instance → State → (ℕ → ℕ → ℚ) → List ℚ → List Listed
table_listing inst s table β =
    entries_listing inst
    ++ map (λ p. (place 0 kind.Value (Some p) None, at β p)) (upto (row_count inst))
    ++ costs_listing inst 0 s table

-- ── number k: a step from the state k ──

-- the ratio test: each distance and its quotient by the size of the rate, then the distance between the entering column's ends
abbrev pub ratio_listing : Instance → ℕ → State → ℕ → ℚ → List ℚ → List ℚ → List Listed
ratio_listing inst k s q t β α = flat_map in_position (upto (row_count inst)) ++ own (bounds inst s.phase q)
  where
    in_position : ℕ → List Listed
    in_position p = elim (distance_at inst s t β α p) [ None ↦ [] | Some d ↦ (place k kind.Ratio (Some p) None, d.0) ∷ (place k kind.Ratio (Some p) None, d.0 /ℚ abs_ℚ (at α p)) ∷ [] ]

    own : Interval → List Listed
    own ends = elim ends.lower [ None ↦ [] | Some l ↦ elim ends.upper [ None ↦ [] | Some u ↦ (place k kind.Ratio None (Some q), u -ℚ l) ∷ [] ] ]

-- the pivot row after the pivot on position p and column q
abbrev pub pivot_row : (ℕ → ℕ → ℚ) → ℕ → ℕ → ℕ → ℚ
pivot_row table p q j = table p j /ℚ table p q

-- the entries that a pivot changes: the pivot row, then each other row that has an entry in column q
abbrev pub pivot_listing : Instance → ℕ → (ℕ → ℕ → ℚ) → ℕ → ℕ → List Listed
pivot_listing inst k table p q =
    map (λ j. (place k kind.Entry (Some p) (Some j), pivot_row table p q j)) (upto (column_count inst))
    ++ flat_map in_row (upto (row_count inst))
  where
    in_row : ℕ → List Listed
    in_row i =
        if i == p || eq_ℚ (table i q) zero_ℚ then []
        else flat_map (λ j. placed (place k kind.Entry (Some i) (Some j)) (less (table i j) (table i q) (pivot_row table p q j))) (upto (column_count inst))

-- the basic value in row i after a step of column q by the ratio, which moves it against the direction; column q is α
abbrev pub value_listing : ℕ → ℚ → ℚ → List ℚ → List ℚ → ℕ → List Listed
value_listing k t ratio β α i = placed (place k kind.Value (Some i) None) (if lt_ℚ t zero_ℚ then more (at β i) (at α i) ratio else less (at β i) (at α i) ratio)

-- the entering column's value after the step
abbrev pub entered : ℚ → ℚ → ℚ → ℚ
entered t v ratio = if lt_ℚ t zero_ℚ then v -ℚ ratio else v +ℚ ratio

-- what the move of a limit lists after the ratio test
abbrev pub move_listing : Instance → ℕ → State → (ℕ → ℕ → ℚ) → List ℚ → List ℚ → (ℕ → ℚ) → ℕ → ℚ → ℚ → Entry → List Listed
move_listing inst k s table β α d q t ratio (Flip _) = flat_map (value_listing k t ratio β α) (upto (row_count inst))
move_listing inst k s table β α d q t ratio (Swap _ p _) =
    pivot_listing inst k table p q
    ++ flat_map (λ i. if i == p then (place k kind.Value (Some p) None, entered t (rest inst s q) ratio) ∷ [] else value_listing k t ratio β α i) (upto (row_count inst))
    ++ flat_map (λ j. placed (place k kind.Cost None (Some j)) (less (d j) (d q) (pivot_row table p q j))) (upto (column_count inst))
move_listing inst k s table β α d q t ratio Turn = []

-- the objective at the end, from the constant
abbrev pub total_listing : Instance → ℕ → List ℚ → List Listed
total_listing inst k x =
    or_first (place k kind.Total None None) inst.constant
    (added inst.constant (map (λ j. (place k kind.Total None (Some j), ((structural inst j).cost, at x j))) (upto (structural_count inst))))

-- ── what is listed along a run ──

-- what the making of the table lists
abbrev pub MakingLists : Instance → List Listed → Type 0
MakingLists inst vs = (table : ℕ → ℕ → ℚ) × (β : List ℚ) × IsTable inst (start_of inst) table × Values inst (start_of inst) β × (vs ≡ table_listing inst (start_of inst) table β)

-- a move: what it works with, and the limit that decides it
pub record Move (inst : Instance) (s : State) : Type 0 where
  pub prices : List ℚ
  pub values : List ℚ
  pub column : List ℚ
  pub entering : ℕ
  pub limit : Limit
  pub pivoting : Pivoting inst s prices values column entering
  pub leaves : Leaves inst s entering (direction (reduced inst s prices entering)) values column limit

-- under number k a move lists its ratio test and its changes
abbrev pub MoveLists : Instance → ℕ → State → List Listed → Type 0
MoveLists inst k s vs =
    (table : ℕ → ℕ → ℚ) × (move : Move inst s) × IsTable inst s table
    × (vs ≡ ratio_listing inst k s move.entering (direction (reduced inst s move.prices move.entering)) move.values move.column
    ++ move_listing inst k s table move.values move.column (reduced inst s move.prices) move.entering (direction (reduced inst s move.prices move.entering)) move.limit.ratio move.limit.entry)

-- a turn lists the reduced costs of phase two
abbrev pub TurnLists : Instance → ℕ → State → List Listed → Type 0
TurnLists inst k s vs = (table : ℕ → ℕ → ℚ) × Turns inst s × IsTable inst s table × (vs ≡ costs_listing inst k (after s Turn) table)

-- an end lists the sums of the objective, at an optimum, and else nothing
abbrev pub EndLists : Instance → ℕ → State → List Listed → Type 0
EndLists inst k s vs = ((y β : List ℚ) × EndsOptimal inst s y β × (vs ≡ total_listing inst k (point inst s β))) ⊎ (EndsOtherwise inst s × (vs ≡ []))

-- what is listed under number k, at the state s, by what comes next there
abbrev pub StepLists : Instance → ℕ → State → List Listed → Type 0
StepLists inst k s vs = MoveLists inst k s vs ⊎ (TurnLists inst k s vs ⊎ EndLists inst k s vs)

-- what the steps of a log list, from the state s of number k on
abbrev pub StepsList : Instance → ℕ → State → List Entry → List Listed → Type 0
StepsList inst k s [] vs = vs ≡ []
StepsList inst k s (e ∷ log) vs = (now later : List Listed) × StepLists inst k s now × StepsList inst (k + 1) (after s e) log later × (vs ≡ now ++ later)

-- what is worked before the state that the log reaches: the making of the table and each step
abbrev pub WorkedBefore : Instance → List Entry → List Listed → Type 0
WorkedBefore inst log vs = (made stepped : List Listed) × MakingLists inst made × StepsList inst 0 (start_of inst) log stepped × (vs ≡ made ++ stepped)

-- ── what fits ──

-- the place of the first value that does not fit the width
abbrev pub first_unfit : ℕ → List Listed → Option Place
first_unfit w [] = None
first_unfit w ((here, v) ∷ vs) = if fits_width w v then first_unfit w vs else Some here

abbrev pub AllFit : ℕ → List Listed → Type 0
AllFit w vs = first_unfit w vs ≡ None

-- the answer is the place of the first listed value that does not fit, and Ok where all fit
abbrev pub Judges : {A : Type 0} → ℕ → List Listed → Result A Place → Type 0
Judges w vs result = MatchResult result (λ _. AllFit w vs) (λ here. first_unfit w vs ≡ Some here)

-- the start sums fit the width
abbrev pub StartFits : ℕ → Instance → Type 0
StartFits w inst = AllFit w (start_listing inst)

-- every value that is listed along the run fits the width
pub record RunFits (w : ℕ) (inst : Instance) : Type 0 where
  pub start : StartFits w inst
  pub making : (vs : List Listed) → MakingLists inst vs → AllFit w vs
  pub steps : (log : List Entry) (s : State) (vs : List Listed) → IsRun inst log s → StepLists inst (length log) s vs → AllFit w vs

-- the place of the first value that does not fit, of all that are listed up to the number of the state s, which the run reaches by the log
abbrev pub IsFirstUnfit : ℕ → Instance → List Entry → State → Place → Type 0
IsFirstUnfit w inst log s first =
    (before now : List Listed) × WorkedBefore inst log before × StepLists inst (length log) s now × (first_unfit w (start_listing inst ++ before ++ now) ≡ Some first)

-- the place of the first sum of the objective that does not fit, at the end of the run
abbrev pub IsFirstTotal : ℕ → Instance → List Entry → State → Place → Type 0
IsFirstTotal w inst log s first = (y β : List ℚ) × EndsOptimal inst s y β × (first_unfit w (total_listing inst (length log) (point inst s β)) ≡ Some first)

-- a place where the run does not fit the width, at a state that it reaches within the budget of moves
abbrev pub Overflows : ℕ → ℕ → Instance → Place → Type 0
Overflows w budget inst first = (log : List Entry) × (s : State) × IsRun inst log s × (moves log ≤ budget) × (IsFirstUnfit w inst log s first ⊎ IsFirstTotal w inst log s first)
