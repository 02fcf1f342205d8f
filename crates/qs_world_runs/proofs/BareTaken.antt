-- What a node takes up from its log is bare: no request of it waits for a reply, it knows no cause and nobody who is to be told; and no tick was made.
use Rattle.qs_world_runs.proofs.Words.{◌≡◌, ◌⊎◌, inl, inr, ℕ, ◌==◌, Bool, true, false, List, [], ◌∷◌, length, fold, Some, refl, sym, subst, ◌∙◌, if◌then◌else◌, NodeNo, ServerNo, Tid, Record, take_up, committed_before, voted_before, new_participant, Manager, Participant, same_or_apart, each_changed, put_there, of_some}
use Rattle.qs_engage.specs.Nodes.{no_nodes}
use Rattle.qs_record.specs.declared.record.Record.TheVariants as records
use Rattle.qs_tm.specs.Manager as tm
use Rattle.qs_world_lawful.proofs.Apart.{Apart}
use Rattle.qs_world_lawful.proofs.Faces.{put_apart}

pub record IsBare (part : Participant) : Type 0 where
  pub waiting : part.waiting ≡ []
  pub told : part.told ≡ no_nodes
  pub causes : part.causes ≡ []

pub record IsBareManager (manager : Manager) : Type 0 where
  pub parts : (tid : Tid) (part : Participant) → tm.part_of tid manager ≡ Some part → IsBare part
  pub ticks : manager.ticks ≡ 0

put_bare : (tid : Tid) (part : Participant) (m : Manager) → IsBare part → IsBareManager m → IsBareManager (tm.put_part tid part m)
put_bare tid part m new h = record { parts = λ t p known. by t p known (same_or_apart tid t); ticks = h.ticks }
  where
    by : (t : Tid) (p : Participant) → tm.part_of t (tm.put_part tid part m) ≡ Some p → (tid ≡ t) ⊎ Apart tid t → IsBare p
    by t p known (inl e) = subst IsBare (of_some (sym (put_there tid part m) ∙ subst (λ (x : Tid). tm.part_of x (tm.put_part tid part m) ≡ Some p) (sym e) known)) new
    by t p known (inr far) = h.parts t p (sym (put_apart tid t part m far) ∙ known)

vote_bare : (tid : Tid) (server : ServerNo) (covers : ℕ) (m : Manager) → IsBareManager m → IsBareManager (tm.take_up_vote tid server covers m)
vote_bare tid server covers m h = record {
  parts = each_changed tid (voted_before (tm.is_home tid m) server covers) (tm.meet tid m) (λ (t : Tid) (p : Participant). IsBare p) (λ t p far known. met.parts t p known)
      (λ p known. record { waiting = (met.parts tid p known).waiting; told = (met.parts tid p known).told; causes = (met.parts tid p known).causes });
  ticks = met.ticks;
}
  where
    met : IsBareManager (tm.meet tid m)
    met = by (tm.knows tid m)
      where
        by : (b : Bool) → IsBareManager (if b then m else tm.put_part tid (new_participant (tm.is_home tid m)) m)
        by true = h
        by false = put_bare tid (new_participant (tm.is_home tid m)) m (record { waiting = refl; told = refl; causes = refl }) h

commit_bare : (tid : Tid) (told : List NodeNo) (m : Manager) → IsBareManager m → IsBareManager (tm.take_up_commit tid told m)
commit_bare tid told m h = by (length told == 0)
  where
    by : (b : Bool) → IsBareManager (if b then m else tm.put_part tid (committed_before (tm.is_home tid m) told) m)
    by true = h
    by false = put_bare tid (committed_before (tm.is_home tid m) told) m (record { waiting = refl; told = refl; causes = refl }) h

pub all_bare : (rs : List Record) (m : Manager) → IsBareManager m → IsBareManager (fold take_up m rs)
all_bare [] m h = h
all_bare (records.Prepare tid server covers changes ∷ rs) m h = all_bare rs (tm.take_up_vote tid server covers m) (vote_bare tid server covers m h)
all_bare (records.Commit tid told ∷ rs) m h = all_bare rs (tm.take_up_commit tid told m) (commit_bare tid told m h)
all_bare (records.Aborted tid ∷ rs) m h = all_bare rs m h
all_bare (records.End tid ∷ rs) m h = all_bare rs m h
