use Rattle.std.proofs.Common.{◌≡◌, refl, ◌∙◌}
use Rattle.lp_model.specs.Edit.{same_bytes}
use Rattle.mps_model.specs.Sections.{word_of}
use Rattle.mps_model.specs.contracts.SectionPartialEq.TheImpl.{ghosts}
use Rattle.mps_model.specs.declared.Section.{Section}
use Rattle.mps_model.specs.declared.Section.TheVariants.{Title, ObjectiveSense, Rows, Columns, RightSides, Ranges, Bounds, Finish}
use Rattle.mps_reader.proofs.SectionOrder.{among}
use Rattle.mps_reader.proofs.section.is_among.Goals as goal

-- two sections are the same where their words are
same : (x y : Section) → ghosts.eq x y ≡ same_bytes (word_of x) (word_of y)
same Title y = elim y as (λ k. ghosts.eq Title k ≡ same_bytes (word_of Title) (word_of k))
    [ Title ↦ refl | ObjectiveSense ↦ refl | Rows ↦ refl | Columns ↦ refl | RightSides ↦ refl | Ranges ↦ refl | Bounds ↦ refl | Finish ↦ refl ]
same ObjectiveSense y = elim y as (λ k. ghosts.eq ObjectiveSense k ≡ same_bytes (word_of ObjectiveSense) (word_of k))
    [ Title ↦ refl | ObjectiveSense ↦ refl | Rows ↦ refl | Columns ↦ refl | RightSides ↦ refl | Ranges ↦ refl | Bounds ↦ refl | Finish ↦ refl ]
same Rows y = elim y as (λ k. ghosts.eq Rows k ≡ same_bytes (word_of Rows) (word_of k))
    [ Title ↦ refl | ObjectiveSense ↦ refl | Rows ↦ refl | Columns ↦ refl | RightSides ↦ refl | Ranges ↦ refl | Bounds ↦ refl | Finish ↦ refl ]
same Columns y = elim y as (λ k. ghosts.eq Columns k ≡ same_bytes (word_of Columns) (word_of k))
    [ Title ↦ refl | ObjectiveSense ↦ refl | Rows ↦ refl | Columns ↦ refl | RightSides ↦ refl | Ranges ↦ refl | Bounds ↦ refl | Finish ↦ refl ]
same RightSides y = elim y as (λ k. ghosts.eq RightSides k ≡ same_bytes (word_of RightSides) (word_of k))
    [ Title ↦ refl | ObjectiveSense ↦ refl | Rows ↦ refl | Columns ↦ refl | RightSides ↦ refl | Ranges ↦ refl | Bounds ↦ refl | Finish ↦ refl ]
same Ranges y = elim y as (λ k. ghosts.eq Ranges k ≡ same_bytes (word_of Ranges) (word_of k))
    [ Title ↦ refl | ObjectiveSense ↦ refl | Rows ↦ refl | Columns ↦ refl | RightSides ↦ refl | Ranges ↦ refl | Bounds ↦ refl | Finish ↦ refl ]
same Bounds y = elim y as (λ k. ghosts.eq Bounds k ≡ same_bytes (word_of Bounds) (word_of k))
    [ Title ↦ refl | ObjectiveSense ↦ refl | Rows ↦ refl | Columns ↦ refl | RightSides ↦ refl | Ranges ↦ refl | Bounds ↦ refl | Finish ↦ refl ]
same Finish y = elim y as (λ k. ghosts.eq Finish k ≡ same_bytes (word_of Finish) (word_of k))
    [ Title ↦ refl | ObjectiveSense ↦ refl | Rows ↦ refl | Columns ↦ refl | RightSides ↦ refl | Ranges ↦ refl | Bounds ↦ refl | Finish ↦ refl ]

pub returns : goal.returns
returns c = c.contains.ensures.value ∙ among ghosts.eq same c.args.section c.args.begun.now
