-- The laws carried to another world, along its runs.
use Rattle.std.proofs.Common.{inl, inr, List, [], ◌∷◌, ◌++◌, refl, sym, subst}
use Rattle.qs_world_agree.specs.World.{World}
use Rattle.qs_world_agree.specs.Origins.{first}
use Rattle.qs_world_agree.specs.Step.{Event}
use Rattle.qs_world_agree.specs.Laws.{Run, IsReached, IsSilenced}
use Rattle.qs_world_agree.specs.Carry.{RunOf, Leads, IsLawful, IsShown, Begins, GoesOn, StaysLawful}
use Rattle.qs_world_agree.proofs.Whole.{Inv}
use Rattle.qs_world_agree.proofs.Lawful.{inv_reached, settled_at, answered_at, involved_at, agreed_at, silenced_at}

-- one run after another
pub run_append : (before after : List Event) (old mid new : World) → Run old before mid → Run mid after new → Run old (before ++ after) new
run_append [] after old mid new r next = subst (λ (w : World). Run w after new) r next
run_append (e ∷ es) after old mid new r next = (r.0, r.1, run_append es after r.0 mid new r.2 next)

-- what a run leads to is lawful, and what it goes on to
pub lawful : (w : World) → IsReached w → IsLawful w
lawful w r = let i : Inv w = inv_reached w r in record { reached = r; agreed = agreed_at w i; settled = settled_at w i; answered = answered_at w i; involved = involved_at w i }

pub reached_on : (old new : World) → IsReached old → Leads old new → IsReached new
reached_on old new r l = record { origin = r.origin; begins = r.begins; events = r.events ++ l.events; run = run_append r.events l.events (first r.origin) old new r.run l.run }

pub silenced_on : (old new : World) → IsReached old → Leads old new → IsSilenced old new
silenced_on old new r l = silenced_at l.events old new (inv_reached old r) l.run

pub leads_on : (old mid new : World) → Leads old mid → Leads mid new → Leads old new
leads_on old mid new a b = record { events = a.events ++ b.events; run = run_append a.events b.events old mid new a.run b.run }

-- one act of the other world
shown_step : {State Act Tid : Type 0} (does : Act → State → State → Type 0) (unbegun : Tid → State → Type 0) (shows : Tid → State → World → Type 0)
    → ((t : Tid) (a : Act) (old new : State) → unbegun t old → does a old new → Begins unbegun shows t new)
    → ((t : Tid) (a : Act) (old new : State) (w : World) → IsLawful w → shows t old w → does a old new → GoesOn shows t new w)
    → (t : Tid) (a : Act) (old new : State) → IsShown unbegun shows t old → does a old new → IsShown unbegun shows t new
shown_step does unbegun shows begins goes_on t a old new (inl none) did = elim (begins t a old new none did) [
  | inl still ↦ inl still
  | inr opened ↦
      let at_start : IsReached (first opened.0) = record { origin = opened.0; begins = opened.1; events = []; run = refl } in
      inr (opened.2.0, lawful opened.2.0 (reached_on (first opened.0) opened.2.0 at_start opened.2.1), opened.2.2)
]
shown_step does unbegun shows begins goes_on t a old new (inr is) did =
    let more = goes_on t a old new is.0 is.1 is.2 did in
    inr (more.0, lawful more.0 (reached_on is.0 more.0 is.1.reached more.1), more.2)

-- all acts of a run
pub shown_run : {State Act Tid : Type 0} (does : Act → State → State → Type 0) (unbegun : Tid → State → Type 0) (shows : Tid → State → World → Type 0)
    → ((t : Tid) (a : Act) (old new : State) → unbegun t old → does a old new → Begins unbegun shows t new)
    → ((t : Tid) (a : Act) (old new : State) (w : World) → IsLawful w → shows t old w → does a old new → GoesOn shows t new w)
    → (acts : List Act) (old new : State) (t : Tid) → IsShown unbegun shows t old → RunOf does old acts new → IsShown unbegun shows t new
shown_run does unbegun shows begins goes_on [] old new t is run = subst (λ (s : _). IsShown unbegun shows t s) (sym run) is
shown_run does unbegun shows begins goes_on (a ∷ rest) old new t is run =
    shown_run does unbegun shows begins goes_on rest run.0 new t (shown_step does unbegun shows begins goes_on t a old run.0 is run.1) run.2

-- from one moment of a run to a later one
pub shown_on : {State Act Tid : Type 0} (does : Act → State → State → Type 0) (shows : Tid → State → World → Type 0)
    → ((t : Tid) (a : Act) (old new : State) (w : World) → IsLawful w → shows t old w → does a old new → GoesOn shows t new w)
    → (acts : List Act) (old new : State) (t : Tid) (w : World) → IsLawful w → shows t old w → RunOf does old acts new → StaysLawful shows t new w
shown_on does shows goes_on [] old new t w is shown run =
    let none : Leads w w = record { events = []; run = refl } in
    (w, none, is, silenced_on w w is.reached none, subst (λ (s : _). shows t s w) (sym run) shown)
shown_on does shows goes_on (a ∷ rest) old new t w is shown run =
    let first = goes_on t a old run.0 w is shown run.1 in
    let mid = lawful first.0 (reached_on w first.0 is.reached first.1) in
    let more = shown_on does shows goes_on rest run.0 new t first.0 mid first.2 run.2 in
    let all = leads_on w first.0 more.0 first.1 more.1 in
    (more.0, all, more.2, silenced_on w more.0 is.reached all, more.4)
