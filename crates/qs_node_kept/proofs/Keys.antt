-- Which key a label has, and which its transaction is.
use Rattle.std.proofs.Common.{◌≡◌, ℕ, List, refl, sym}
use Rattle.std.specs.Prelude.{Some, None, true, false}
use Rattle.std.specs.Ordering.{is_eq}
use Rattle.std.specs.declared.cmp.Ordering.{Ordering}
use Rattle.std.specs.declared.cmp.Ordering.TheVariants.{Less, Equal, Greater}
use Rattle.std.proofs.lemmas.Map.Lookups.{exact_bytes}
use Rattle.qs_base.specs.Order.{bytes_cmp}
use Rattle.qs_base.proofs.Same.{same_tid-true}
use Rattle.qs_base.specs.declared.identifiers.Tid.{Tid}
use Rattle.qs_node_kept.specs.declared.kept.KeptLabel.{KeptLabel}
use Rattle.qs_node_kept.specs.declared.kept.Decided.{Decided}
use Rattle.qs_node_kept.specs.Keeping.{has_label, is_label_of, is_outcome_of}

tied : (o : Ordering) → is_eq o ≡ true → o ≡ Equal
tied Less h = absurd (cc)
tied Equal h = refl
tied Greater h = absurd (cc)

pub own_label : (begun : KeptLabel) (q : List ℕ) → has_label q begun ≡ true → begun.label ≡ q
own_label begun q h = sym (exact_bytes q begun.label (tied (bytes_cmp q begun.label) h))

pub own_tid : (begun : KeptLabel) (tid q : Tid) → begun.tid ≡ Some tid → is_label_of q begun ≡ true → tid ≡ q
own_tid begun tid q e h = sym (same_tid-true q tid (rw e at h))

pub no_tid : (begun : KeptLabel) (q : Tid) → begun.tid ≡ None → is_label_of q begun ≡ false
no_tid begun q e = rw e refl

pub own_outcome : (decided : Decided) (q : Tid) → is_outcome_of q decided ≡ true → decided.tid ≡ q
own_outcome decided q h = sym (same_tid-true q decided.tid h)
