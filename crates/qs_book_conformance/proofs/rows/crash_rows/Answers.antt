use Rattle.std.proofs.Common.{refl}
use Rattle.qs_book_conformance.proofs.rows.crash_rows.Goals as goal

pub returns : goal.returns
returns c = record {
  line = record {
    by_event = refl;
    by_call = refl;
    none = refl;
    elsewhere = refl;
    not_yet = refl;
    past = refl;
    other_label = refl;
    other_node = refl;
    once = refl;
    each = refl;
    both = refl;
  };
  after = record { right_after = refl; in_the_step = refl; later = refl; earlier = refl; at_last = refl; behind_last = refl };
  shared = record { either = refl; turned = refl; one = refl; other = refl; past_both = refl };
  cause = record { disk = refl; between = refl; falls = refl; still = refl; stamps = refl; counts = refl; no_last = refl; memory = refl };
}
