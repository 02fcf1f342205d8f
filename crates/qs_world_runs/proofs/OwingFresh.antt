-- A node whose incarnation begins waits for nothing: what it takes up from its log was neither sent nor asked for in it.
use Rattle.qs_world_runs.proofs.Words.{◌≡◌, ◌⊎◌, inl, inr, ◌==◌, Bool, true, false, not, List, [], ◌∷◌, ◌++◌, length, fold, Some, refl, sym, ap, subst, ◌∙◌, if◌then◌else◌, Global, NodeNo, Tid, is_covered, is_open_to, PeerPart, Entry, Record, Recovered, new_manager, take_up, Setting, committed_before, voted_before, new_participant, Manager, Participant, Every, same_or_apart, each_changed, put_there, of_some, IsAwaited, Owes}
use Rattle.qs_engage.specs.Engage.{new_engage}
use Rattle.qs_node_kept.specs.declared.kept.Kept.{Kept}
use Rattle.qs_record.specs.declared.record.Record.TheVariants as records
use Rattle.qs_node_step.specs.Opening.{opened_node}
use Rattle.qs_tm.specs.Manager as tm
use Rattle.qs_world_lawful.proofs.Apart.{Apart}
use Rattle.qs_world_lawful.proofs.Begins.{new_peer}
use Rattle.qs_world_lawful.proofs.Faces.{put_apart}

-- nothing was sent, and nothing is waited for
record IsFresh (part : Participant) : Type 0 where
  home : Bool
  engage : part.engage ≡ new_engage home
  waiting : part.waiting ≡ []

abbrev AllFresh : Manager → Type 0
AllFresh m = (tid : Tid) (part : Participant) → tm.part_of tid m ≡ Some part → IsFresh part

fresh_put : (tid : Tid) (part : Participant) (m : Manager) → IsFresh part → AllFresh m → AllFresh (tm.put_part tid part m)
fresh_put tid part m new old t p known = by (same_or_apart tid t)
  where
    by : (tid ≡ t) ⊎ Apart tid t → IsFresh p
    by (inl e) = subst IsFresh (of_some (sym (put_there tid part m) ∙ subst (λ (x : Tid). tm.part_of x (tm.put_part tid part m) ≡ Some p) (sym e) known)) new
    by (inr far) = old t p (sym (put_apart tid t part m far) ∙ known)

fresh_met : (tid : Tid) (m : Manager) → AllFresh m → AllFresh (tm.meet tid m)
fresh_met tid m h = by (tm.knows tid m)
  where
    by : (b : Bool) → AllFresh (if b then m else tm.put_part tid (new_participant (tm.is_home tid m)) m)
    by true = h
    by false = fresh_put tid (new_participant (tm.is_home tid m)) m (record { home = tm.is_home tid m; engage = refl; waiting = refl }) h

fresh_vote : (tid : Tid) (server : _) (covers : _) (m : Manager) → AllFresh m → AllFresh (tm.take_up_vote tid server covers m)
fresh_vote tid server covers m h = each_changed tid (voted_before (tm.is_home tid m) server covers) (tm.meet tid m) (λ t p. IsFresh p) (λ t p far known. fresh_met tid m h t p known)
    (λ p known. (let f : IsFresh p = fresh_met tid m h tid p known in record { home = f.home; engage = f.engage; waiting = f.waiting }))

fresh_commit : (tid : Tid) (told : List NodeNo) (m : Manager) → AllFresh m → AllFresh (tm.take_up_commit tid told m)
fresh_commit tid told m h = by (length told == 0)
  where
    by : (b : Bool) → AllFresh (if b then m else tm.put_part tid (committed_before (tm.is_home tid m) told) m)
    by true = h
    by false = fresh_put tid (committed_before (tm.is_home tid m) told) m (record { home = tm.is_home tid m; engage = refl; waiting = refl }) h

all_fresh : (rs : List Record) (m : Manager) → AllFresh m → AllFresh (fold take_up m rs)
all_fresh [] m h = h
all_fresh (records.Prepare tid server covers changes ∷ rs) m h = all_fresh rs (tm.take_up_vote tid server covers m) (fresh_vote tid server covers m h)
all_fresh (records.Commit tid told ∷ rs) m h = all_fresh rs (tm.take_up_commit tid told m) (fresh_commit tid told m h)
all_fresh (records.Aborted tid ∷ rs) m h = all_fresh rs m h
all_fresh (records.End tid ∷ rs) m h = all_fresh rs m h

pub opens_owing : (alloc : Global) (setting : Setting) (found : Recovered) (kept : Kept) (history : List Entry) → Owes (opened_node alloc setting found kept) history
opens_owing alloc setting found kept history tid part known = record {
  uncounted = λ peer open_to. absurd (cc (sym (none peer) ∙ open_to));
  awaited = λ undecided. subst (Every (IsAwaited (opened_node alloc setting found kept) history tid)) (sym f.waiting) tt;
}
  where
    f : IsFresh part
    f = all_fresh (found.in_doubt ++ found.untold) (new_manager alloc setting) (λ t p there. absurd (cc there)) tid part known

    none : (peer : NodeNo) → is_open_to peer part.engage ≡ false
    none peer = ap (is_open_to peer) f.engage ∙ ap (λ (p : PeerPart). not (is_covered p)) (new_peer f.home peer)
