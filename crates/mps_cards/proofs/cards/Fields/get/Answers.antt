use Rattle.std.proofs.Common.{refl}
use Rattle.mps_cards.proofs.cards.Fields.get.Goals as goal

pub returns-in-Section : goal.returns-in-Section
returns-in-Section c = rw (c.section_field.ensures, c.deref.ensures.value, ← c.self.view_is, c.in-Section.is) refl

pub returns-in-Data : goal.returns-in-Data
returns-in-Data c = rw (c.data_field.ensures, c.deref-in-Data.ensures.value, ← c.self.view_is, c.in-Data.is) refl
