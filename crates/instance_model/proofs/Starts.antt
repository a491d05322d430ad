-- The statuses at the start, by the parts of an instance.
use Rattle.std.proofs.Common.{◌≡◌, ◌+◌, ◌^◌, ◌≤◌, ◌++◌, length, map, sym, ◌∙◌, ap, ap₂, arith, length-append}
use Rattle.std.proofs.lemmas.List.{length-map}
use Rattle.instance_model.specs.declared.instance.Instance.TheInside.{Inside}
use Rattle.instance_model.specs.declared.instance.Structural.{Structural as Part}
use Rattle.instance_model.specs.Parts.{IsSound, equations_of, structural_of}
use Rattle.lp_run.specs.Instance.{Instance}
use Rattle.lp_run.specs.State.{artificial_start, logical_start, start_of, structural_start}
use Rattle.instance_model.proofs.Lists.{map-map}

pub statuses_are : (a : Inside) (inst : Instance) → equations_of a ≡ inst
    → map (λ (c : Part). structural_start c.bounds) a.structurals.items ++ map logical_start a.passed.items ++ map artificial_start a.passed.items ≡ (start_of inst).statuses
statuses_are a inst view =
    ap (λ xs. xs ++ map logical_start a.passed.items ++ map artificial_start a.passed.items) (sym (map-map (λ c. structural_start c.bounds) structural_of a.structurals.items))
    ∙ ap (λ i. (start_of i).statuses) view

-- there are few of them
pub statuses_few : (a : Inside) → IsSound a → length (start_of (equations_of a)).statuses ≤ 2 ^ 32
statuses_few a sound =
    let n : length (start_of (equations_of a)).statuses ≡ length a.structurals.items + length a.passed.items + length a.passed.items =
    length-append (map (λ c. structural_start c.bounds) (map structural_of a.structurals.items) ++ map logical_start a.passed.items) (map artificial_start a.passed.items)
    ∙ ap₂ ◌+◌
    (length-append (map (λ c. structural_start c.bounds) (map structural_of a.structurals.items)) (map logical_start a.passed.items)
    ∙ ap₂ ◌+◌ (length-map (map structural_of a.structurals.items) (λ c. structural_start c.bounds) ∙ length-map a.structurals.items structural_of)
    (length-map a.passed.items logical_start))
    (length-map a.passed.items artificial_start) in
    omega (arith, n, sound.well_formed.sides, sound.few_rows, sound.few_columns)
