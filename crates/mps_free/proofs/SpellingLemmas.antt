-- A text that is another one, letter case aside.
use Rattle.std.proofs.Common.{◌≡◌, ℕ, Bool, true, false, List, map, ◌↔◌, IsTrue, refl, sym, ap, ◌∙◌}
use Rattle.std.specs.Char.{to_ascii_lowercase}
use Rattle.lp_model.specs.Edit.{same_bytes}
use Rattle.lp_text.proofs.SameBytes.{same_bytes-equal, same_bytes-own}

pub spelled : (word small : List ℕ) → map to_ascii_lowercase small ≡ small → (result : Bool)
    → (IsTrue result ↔ (map to_ascii_lowercase word ≡ map to_ascii_lowercase small)) → result ≡ same_bytes (map to_ascii_lowercase word) small
spelled word small is_small true test =
    sym (ap (λ text. same_bytes text small) (test.0 refl ∙ is_small) ∙ same_bytes-own small)
spelled word small is_small false test = by (same_bytes (map to_ascii_lowercase word) small) refl
  where
    by : (b : Bool) → same_bytes (map to_ascii_lowercase word) small ≡ b → false ≡ b
    by true same = test.1 (same_bytes-equal (map to_ascii_lowercase word) small same ∙ sym is_small)
    by false other = refl
