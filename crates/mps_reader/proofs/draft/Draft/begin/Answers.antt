use Rattle.std.proofs.Common.{◌≡◌, ℕ, ◌+◌, Option, ◌∷◌, false, length, replicate, Some, None, true, sym, ap, ap₂, ◌∙◌, subst, refl}
use Rattle.std.specs.Option.{SomeIff}
use Rattle.lp_text.specs.Senses.{sense_of}
use Rattle.mps_model.specs.Sections.{may_begin, section_of}
use Rattle.mps_model.specs.Judgement.{begin_section, has_no_sense, with_sense_given}
use Rattle.mps_model.specs.declared.Section.TheVariants as code
use Rattle.mps_reader.specs.Inner.Standing.{IsDraftOf}
use Rattle.mps_reader.proofs.SectionsBegun.{columns_begun, other_begun, section_taken, sense_begun, title_begun}
use Rattle.mps_reader.proofs.draft.Draft.begin.Goals as goal
use Rattle.mps_reader.proofs.draft.Draft.begin.Goals.{in-Title+in_ok-of-in-Title, in-ObjectiveSense, in-Columns+in_ok-slots-in-Columns+in_ok-self-in-Columns, in_default-section}

slots_are : (sum : Option ℕ) (P : Type 0) (v n : ℕ) → SomeIff sum P v → sum ≡ Some n → n ≡ v
slots_are None P v n h e = absurd (cc e)
slots_are (Some x) P v n h e =
    let same : x ≡ n = cc e in
    sym same ∙ h.1

pub returns : goal.returns
returns c = λ s h.
    let draft = c.args.self.now in
    let second = c.args.second.now in
    let name = c.args.name.now in
    let section = c.in-Some.section in
    let new = record c.match-section.self { begun = c.insert.new.self } in
    let known : section_of c.args.word.now ≡ Some section = sym c.section_of.ensures ∙ c.in-Some.is in
    let sense : has_no_sense section second ≡ false = sym c.has_no_sense.ensures ∙ c.if-has_no_sense.false in
    let may : may_begin section s.begun ≡ true =
    ap (may_begin section) (h.begun ∙ (sym c.deref.ensures.value)) ∙ sym c.may_begin.ensures ∙ c.if-not-may_begin.false in
    let stands : IsDraftOf new (begin_section s section second name) =
    elim c.match-section.branch [
      | in-Title+in_ok-of-in-Title w ↦
          let items : c.insert.new.self.items ≡ code.Title ∷ draft.begun.items = c.in_ok-insert.ensures.items ∙ ap₂ (λ m k. k ∷ m.begun.items) w.self-is w.in-Title.is in
          let deck : new.deck ≡ record draft.deck { name = name } =
          ap (λ m. m.deck) w.self-is ∙ w.set_name.ensures ∙ ap (λ n. record draft.deck { name = n }) w.in_ok-of-in-Title.ensures in
          subst (λ k. may_begin k s.begun ≡ true → IsDraftOf new (begin_section s k second name)) (sym w.in-Title.is)
          (title_begun draft s h new second name items deck (ap (λ m. m.awaits_sense) w.self-is) (ap (λ m. m.free_rows) w.self-is) (ap (λ m. m.set) w.self-is) (ap (λ m. m.bounds) w.self-is)
          (ap (λ m. m.named) w.self-is)) may
      | in-ObjectiveSense w ↦
          let after = with_sense_given s (sense_of second) in
          let given : IsDraftOf c.match-section.self after =
          subst (λ d. IsDraftOf d after) (sym w.self-is) (subst (λ o. IsDraftOf w.give_sense.new.self (with_sense_given s o)) w.sense_of.ensures (w.give_sense.ensures s h)) in
          let items : c.insert.new.self.items ≡ code.ObjectiveSense ∷ c.match-section.self.begun.items =
          c.in_ok-insert.ensures.items ∙ ap (λ k. k ∷ c.match-section.self.begun.items) w.in-ObjectiveSense.is in
          subst (λ k. may_begin k s.begun ≡ true → IsDraftOf new (begin_section s k second name)) (sym w.in-ObjectiveSense.is)
          (sense_begun c.match-section.self after given new items refl) may
      | in-Columns+in_ok-slots-in-Columns+in_ok-self-in-Columns w ↦
          let items : c.insert.new.self.items ≡ code.Columns ∷ draft.begun.items = c.in_ok-insert.ensures.items ∙ ap₂ (λ m k. k ∷ m.begun.items) w.self-is w.in-Columns.is in
          let named : new.named ≡ replicate (length draft.deck.rows + length draft.free_rows.keys) None = ap (λ m. m.named) w.self-is
          ∙ w.in_ok-self-in-Columns.ensures ∙ ap (λ n. replicate n None) (slots_are w.checked_add.result _ _ _ w.checked_add.ensures
          w.in_ok-slots-in-Columns.ensures.ok_part ∙ ap₂ (λ a b. a + b) w.rows.ensures.count w.len.ensures.len) in
          subst (λ k. may_begin k s.begun ≡ true → IsDraftOf new (begin_section s k second name)) (sym w.in-Columns.is)
          (columns_begun draft s h new second name items (ap (λ m. m.deck) w.self-is) (ap (λ m. m.awaits_sense) w.self-is) (ap (λ m. m.free_rows) w.self-is) (ap (λ m. m.set) w.self-is)
          (ap (λ m. m.bounds) w.self-is) named) may
      | in_default-section w ↦
          let items : c.insert.new.self.items ≡ section ∷ draft.begun.items = c.in_ok-insert.ensures.items ∙ ap (λ m. section ∷ m.begun.items) w.self-is in
          let named : new.named ≡ replicate (length draft.named) None = ap (λ m. m.named) w.self-is ∙ w.clear.ensures in
          other_begun draft s h section w.in_default-section.not-Title w.in_default-section.not-ObjectiveSense w.in_default-section.not-Columns new second name items (ap (λ m. m.deck) w.self-is)
          (ap (λ m. m.awaits_sense) w.self-is) (ap (λ m. m.free_rows) w.self-is) (ap (λ m. m.set) w.self-is)
          (ap (λ m. m.bounds) w.self-is) named may
    ] in
    (begin_section s section second name, section_taken s c.args.word.now second name section known sense may, stands)
