-- A node where a pass is due, or a loan stands, is engaged: else it would be idle.
use Rattle.qs_world_runs.proofs.Words.{◌≡◌, ◌&&◌, ◌||◌, not, Bool, true, false, Option, Some, None, refl, NodeNo, is_lent, needs_pass, is_engaged, where_so, known_sound, PartSound, is_apart}
use Rattle.qs_ipc.specs.Ipc as ipc
use Rattle.qs_world_runs.specs.Awaited.{BusyEngaged}

pub busy_engaged : BusyEngaged
busy_engaged tid node part sound known open_now busy = at part.engage.home part.engage.superior refl refl
  where
    s : PartSound node tid part
    s = known_sound tid node part known sound

    never : (c a l p : Bool) → c ≡ true → where_so c (not a && (not l && not p)) ≡ true → (p || l) ≡ true → ⊥
    never true false false false so is due = cc due
    never true true l p so is due = cc is
    never true false true p so is due = cc is
    never true false false true so is due = cc is
    never false a l p so is due = cc so

    at : (h : Bool) (o : Option NodeNo) → part.engage.home ≡ h → part.engage.superior ≡ o → is_engaged part ≡ true
    at true o home superior = rw (home, open_now) refl
    at false (Some node_no) home superior = rw (home, superior) refl
    at false None home superior = absurd (let apart : is_apart part ≡ true = rw (home, open_now, superior) refl in never (is_apart part) (ipc.waits tid node.queues) (is_lent tid node) (needs_pass part) apart s.idle busy)
