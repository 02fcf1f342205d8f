-- What shows a transaction goes on to show it over a run, move by move.
use Rattle.qs_world_refine.proofs.Words.{[], ◌∷◌, refl, sym, subst, moved, leads_on, AllGoes}
use Rattle.qs_world.specs.World.{World}
use Rattle.qs_world_refine.specs.EachRun.{EachRunGoes}
use Rattle.qs_world_refine.proofs.EachMoveGoes.{each_move_goes}

pub each_run_goes : EachRunGoes
each_run_goes tid [] old new w run along all = subst (λ (world : World). AllGoes tid world w) (sym run) (record { next = w; leads = record { events = []; run = refl }; shown = all })
each_run_goes tid (move ∷ moves) old new w run along all =
    let may = along.0 in
    let first = each_move_goes tid old move w run.0 may.steady may.fits may.home_in may.began all in
    let rest = each_run_goes tid moves (moved move old) new first.next run.1 along.1 first.shown in
    record { next = rest.next; leads = leads_on w first.next rest.next first.leads rest.leads; shown = rest.shown }
