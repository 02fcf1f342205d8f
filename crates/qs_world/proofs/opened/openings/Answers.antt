use Rattle.std.proofs.Common.{refl}
use Rattle.qs_world.proofs.opened.openings.Goals as goal

pub returns : goal.returns
returns c = record {
  shown = λ alloc. record {
    commit = record { size = refl; settings = refl; scripts = refl; labels = refl; logs = refl; votes = refl; unended = refl; whole = refl };
    abort = record { size = refl; settings = refl; scripts = refl; labels = refl; logs = refl; votes = refl; unended = refl; whole = refl };
    volatile = record { size = refl; settings = refl; scripts = refl; labels = refl; logs = refl; votes = refl; unended = refl; whole = refl };
    remote = record { size = refl; settings = refl; scripts = refl; labels = refl; logs = refl; votes = refl; unended = refl; whole = refl };
    late = record { size = refl; settings = refl; scripts = refl; labels = refl; logs = refl; votes = refl; unended = refl; whole = refl };
    taken = record { size = refl; settings = refl; scripts = refl; labels = refl; logs = refl; votes = refl; unended = refl; whole = refl };
    both = record { size = refl; settings = refl; scripts = refl; labels = refl; logs = refl; votes = refl; unended = refl; whole = refl };
  };
}
