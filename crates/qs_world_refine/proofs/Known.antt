-- What a rule makes of a transaction that is known, and undecided.
use Rattle.qs_world_refine.proofs.Words.{◌≡◌, Bool, true, Option, Some, None, ap, ◌∙◌, refl, if◌then◌else◌, Tid, is_undecided, Manager, Participant, where_undecided, Work, part_of}
use Rattle.qs_tm.specs.Manager as tm

pub is_open : (part : Participant) → part.outcome ≡ None → is_undecided part ≡ true
is_open part undecided = rw undecided refl

-- what is told of it
pub told_is : {A : Type 0} (tid : Tid) (unknown : A) (f : Participant → A) (manager : Manager) (part : Participant) → tm.part_of tid manager ≡ Some part → tm.told_of tid unknown f manager ≡ f part
told_is tid unknown f manager part known = ap (λ (o : Option Participant). elim o [ None ↦ unknown | Some part ↦ f part ]) known

pub undecided_is : (tid : Tid) (rule : Participant → Work → Work) (work : Work) (part : Participant) → part_of tid work ≡ Some part → part.outcome ≡ None → where_undecided tid rule work ≡ rule part work
undecided_is tid rule work part known undecided =
    ap (λ (o : Option Participant). elim o [ None ↦ work | Some part ↦ if is_undecided part then rule part work else work ]) known
    ∙ ap (λ (b : Bool). if b then rule part work else work) (is_open part undecided)
