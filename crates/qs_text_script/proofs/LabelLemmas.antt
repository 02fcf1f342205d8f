-- Facts about sets of labels.
use Rattle.std.proofs.Common.{◌≡◌, ℕ, Bool, true, false, cond, ◌||◌, List, refl, ◌∙◌}
use Rattle.std.specs.Cmp.Lexicographic.{texts_ties}
use Rattle.std.specs.BTreeMap.{is_at}
use Rattle.qs_base.specs.Order.{bytes_cmp, same_bytes}

cond_or : (t old : Bool) → cond t true old ≡ (old || t)
cond_or true true = refl
cond_or true false = refl
cond_or false true = refl
cond_or false false = refl

pub added_label : (label other key : List ℕ) (old new : Bool) → key ≡ label → new ≡ cond (is_at (bytes_cmp key) other) true old → new ≡ (old || same_bytes label other)
added_label label other key old new same e =
    e ∙ cond_or (is_at (bytes_cmp key) other) old ∙ rw (same, texts_ties label other) refl
