-- What a node takes up from a log whose records fit: who is not decided left a Prepare, and a Commit is of the home; and each server is of its kind.
use Rattle.qs_world_refine.proofs.Words.{◌≡◌, inl, inr, ℕ, ◌<◌, ◌==◌, ◌&&◌, Bool, true, false, List, [], ◌∷◌, ◌++◌, fold, length, Option, Some, None, is_some, refl, sym, ap, subst, ◌∙◌, arith, if◌then◌else◌, nat_tests, ◌⊎◌, zero, suc, list_all, Global, same_tid, NodeNo, ServerNo, Tid, new_engage, same_node, ServerValue, number_of, Op, Record, Recovery, in_doubt, untold, ServersValue, server_at, with_server, recovered_as, take_up, new_manager, opened_manager, voted_before, committed_before}
use Rattle.qs_world_refine.proofs.Words.{new_participant, Manager, Participant, server_no, same_flag, Stage, is_tidy_part}
use Rattle.qs_base.specs.declared.identifiers.Outcome.TheVariants as outcomes
use Rattle.qs_ops.specs.Server.{is_logged, after_keeping}
use Rattle.qs_record.specs.declared.record.Record.TheVariants as records
use Rattle.qs_node_step.specs.Opening.{opened_servers, keep_changes}
use Rattle.qs_tm.specs.Manager as tm
use Rattle.qs_world_refine.specs.Steadies.{IsTaken}
use Rattle.qs_world_refine.proofs.Entries.{all_of_tid}
use Rattle.qs_world_refine.proofs.PartsAfter.{IsSame, IsChanged, IsPut, changed_seen, put_seen}
use Rattle.qs_world_refine.proofs.SaidTidy.{IsSaidTidy, taken_records, is_taken_record}
use Rattle.qs_world_refine.proofs.ServerKinds.{kind_kept}
use Rattle.qs_world_refine.proofs.SoundBegin.{all_put}
use Rattle.qs_world_refine.proofs.SoundParts.{and_both, both_and, all_found}

-- ---- servers: each is of its kind

keeping_kind : (value : ServerValue) (tid : Tid) (changes : List Op) → (after_keeping value tid changes).kind ≡ value.kind
keeping_kind value tid changes = by (is_logged value.kind)
  where
    by : (b : Bool) → (if b then record value { table = Rattle.qs_ops.specs.Table.kept value.table (record { tid = tid; changes = changes }) } else value).kind ≡ value.kind
    by true = refl
    by false = refl

abbrev pub OfKinds : ServersValue → Type 0
OfKinds servers = (s : ℕ) → s < 7 → number_of (server_at servers (server_no s)).kind ≡ s

pub changes_kinds : (recs : List Record) (servers : ServersValue) → OfKinds servers → OfKinds (fold keep_changes servers recs)
changes_kinds [] servers has = has
changes_kinds (records.Prepare tid server covers changes ∷ recs) servers has = changes_kinds recs (with_server server (λ value. after_keeping value tid changes) servers)
    (λ s low. ap number_of (kind_kept (λ value. after_keeping value tid changes) (λ value. keeping_kind value tid changes) s servers server) ∙ has s low)
changes_kinds (records.Commit tid told ∷ recs) servers has = changes_kinds recs servers has
changes_kinds (records.Aborted tid ∷ recs) servers has = changes_kinds recs servers has
changes_kinds (records.End tid ∷ recs) servers has = changes_kinds recs servers has

pub opened_kinds : (quota : ℕ) (said : Recovery) → OfKinds (opened_servers quota (recovered_as said))
opened_kinds quota said zero low = refl
opened_kinds quota said (suc zero) low = refl
opened_kinds quota said (suc (suc zero)) low = refl
opened_kinds quota said (suc (suc (suc zero))) low = refl
opened_kinds quota said (suc (suc (suc (suc zero)))) low = refl
opened_kinds quota said (suc (suc (suc (suc (suc zero))))) low = refl
opened_kinds quota said (suc (suc (suc (suc (suc (suc zero)))))) low = refl
opened_kinds quota said (suc (suc (suc (suc (suc (suc (suc s))))))) low = absurd (grind (arith, low))

-- ---- what is taken up

module _ (c : Stage) where
  pub record IsTakenFrom (m : Manager) : Type 0 where
    pub own : m.node ≡ c.setting.node
    pub inc : m.inc ≡ c.setting.inc
    pub none : m.begun ≡ 0
    pub known : list_all (is_tidy_part c) m.known ≡ true
    pub parts : (t : Tid) (part : Participant) → tm.part_of t m ≡ Some part → IsTaken part
    pub homed : (t : Tid) (part : Participant) → tm.part_of t m ≡ Some part → part.engage.home ≡ true → is_some part.outcome ≡ true  -- at its home it is decided

  itself : (b : Bool) → same_flag b b ≡ true
  itself true = refl
  itself false = refl

  flag : (m : Manager) (tid : Tid) → m.node ≡ c.setting.node → same_flag (tm.is_home tid m) (same_node tid.home c.setting.node) ≡ true
  flag m tid own = subst (λ (n : NodeNo). same_flag (same_node tid.home n) (same_node tid.home c.setting.node) ≡ true) (sym own) (itself (same_node tid.home c.setting.node))

  -- what a vote makes of it
  voted_taken : (h : Bool) (server : ServerNo) (covers : ℕ) (part : Participant) → part.engage ≡ new_engage part.engage.home → part.waiting ≡ [] → part.asked ≡ false → part.blocked ≡ false
      → (part.outcome ≡ Some outcomes.Commit → part.engage.home ≡ true) → IsTaken (voted_before h server covers part)
  voted_taken true server covers part engage waiting asked blocked committed = record { engage = engage; waiting = waiting; asked = asked; blocked = blocked; undecided = λ none. absurd (cc (none)); committed = λ is. absurd (cc (is)) }
  voted_taken false server covers part engage waiting asked blocked committed = record { engage = engage; waiting = waiting; asked = asked; blocked = blocked; undecided = λ none. refl; committed = committed }

  vote_taken : (tid : Tid) (server : ServerNo) (covers : ℕ) (m : Manager) → c.past tid ≡ true → IsTakenFrom m → IsTakenFrom (tm.take_up_vote tid server covers m)
  vote_taken tid server covers m past is = by (tm.part_of tid m) refl
    where
      voted : Participant → Participant
      voted = voted_before (tm.is_home tid m) server covers

      old : (t : Tid) (part : Participant) → tm.part_of t m ≡ Some part → IsTaken (voted part)
      old t part known = let it : IsTaken part = is.parts t part known in voted_taken (tm.is_home tid m) server covers part it.engage it.waiting it.asked it.blocked it.committed

      new : IsTaken (voted (new_participant (tm.is_home tid m)))
      new = voted_taken (tm.is_home tid m) server covers (new_participant (tm.is_home tid m)) refl refl refl refl (λ is. absurd (cc (is)))

      decides : (h : Bool) (part : Participant) → part.engage.home ≡ h → (voted_before h server covers part).engage.home ≡ true → is_some (voted_before h server covers part).outcome ≡ true
      decides true part at on = refl
      decides false part at on = absurd (cc (at, on))

      -- its home flag is that of the node
      home_of : (part : Participant) → is_tidy_part c (tid, part) ≡ true → part.engage.home ≡ tm.is_home tid m
      home_of part its = flags part.engage.home (same_node tid.home c.setting.node) (and_both (c.past tid) _ (and_both (c.past tid && same_flag part.engage.home (same_node tid.home c.setting.node)) _ its).0).1 ∙ ap (λ (n : NodeNo). same_node tid.home n) (sym is.own)
        where
          flags : (a b : Bool) → same_flag a b ≡ true → a ≡ b
          flags true true is = refl
          flags true false is = absurd (cc (is))
          flags false true is = absurd (cc (is))
          flags false false is = refl

      at_known : (t : Tid) (part : Participant) → (IsSame t tid m (tm.with_part tid voted m) part ⊎ IsChanged t tid voted m part) → IsTaken part
      at_known t part (inl same) = is.parts t part same.was
      at_known t part (inr changed) = subst IsTaken (sym changed.now) (old tid changed.before changed.was)

      homed_known : (t : Tid) (part : Participant) → (IsSame t tid m (tm.with_part tid voted m) part ⊎ IsChanged t tid voted m part) → part.engage.home ≡ true → is_some part.outcome ≡ true
      homed_known t part (inl same) on = is.homed t part same.was on
      homed_known t part (inr changed) on = subst (λ (p : Participant). is_some p.outcome ≡ true) (sym changed.now)
          (decides (tm.is_home tid m) changed.before (home_of changed.before (all_found tid (is_tidy_part c) m.known changed.before changed.was is.known)) (subst (λ (p : Participant). p.engage.home ≡ true) changed.now on))

      put : Manager
      put = tm.put_part tid (new_participant (tm.is_home tid m)) m

      at_put : (t : Tid) (part : Participant) → (IsSame t tid put (tm.with_part tid voted put) part ⊎ IsChanged t tid voted put part) → IsTaken part
      at_put t part (inl same) = other (put_seen t tid (new_participant (tm.is_home tid m)) m part same.was)
        where
          other : (IsSame t tid m put part ⊎ IsPut t tid (new_participant (tm.is_home tid m)) part) → IsTaken part
          other (inl was) = is.parts t part was.was
          other (inr here) = absurd (let at : same_tid t tid ≡ true = subst (λ (u : Tid). same_tid u tid ≡ true) (sym here.same) (grind (arith, nat_tests)) in let off : same_tid t tid ≡ false = same.apart in cc (at, off))
      at_put t part (inr changed) = subst IsTaken (sym changed.now) (before (put_seen tid tid (new_participant (tm.is_home tid m)) m changed.before changed.was))
        where
          before : (IsSame tid tid m put changed.before ⊎ IsPut tid tid (new_participant (tm.is_home tid m)) changed.before) → IsTaken (voted changed.before)
          before (inl was) = old tid changed.before was.was
          before (inr here) = subst (λ (p : Participant). IsTaken (voted p)) (sym here.now) new

      homed_put : (t : Tid) (part : Participant) → (IsSame t tid put (tm.with_part tid voted put) part ⊎ IsChanged t tid voted put part) → part.engage.home ≡ true → is_some part.outcome ≡ true
      homed_put t part (inl same) on = other (put_seen t tid (new_participant (tm.is_home tid m)) m part same.was)
        where
          other : (IsSame t tid m put part ⊎ IsPut t tid (new_participant (tm.is_home tid m)) part) → is_some part.outcome ≡ true
          other (inl was) = is.homed t part was.was on
          other (inr here) = absurd (let at : same_tid t tid ≡ true = subst (λ (u : Tid). same_tid u tid ≡ true) (sym here.same) (grind (arith, nat_tests)) in let off : same_tid t tid ≡ false = same.apart in cc (at, off))
      homed_put t part (inr changed) on = subst (λ (p : Participant). is_some p.outcome ≡ true) (sym changed.now) (decides (tm.is_home tid m) changed.before (before (put_seen tid tid (new_participant (tm.is_home tid m)) m changed.before changed.was)) (subst (λ (p : Participant). p.engage.home ≡ true) changed.now on))
        where
          before : (IsSame tid tid m put changed.before ⊎ IsPut tid tid (new_participant (tm.is_home tid m)) changed.before) → changed.before.engage.home ≡ tm.is_home tid m
          before (inl was) = home_of changed.before (all_found tid (is_tidy_part c) m.known changed.before was.was is.known)
          before (inr here) = ap (λ (p : Participant). p.engage.home) here.now

      new_tidy : is_tidy_part c (tid, new_participant (tm.is_home tid m)) ≡ true
      new_tidy = both_and (c.past tid && same_flag (tm.is_home tid m) (same_node tid.home c.setting.node)) true (both_and (c.past tid) _ past (flag m tid is.own)) refl

      by : (o : Option Participant) → tm.part_of tid m ≡ o → IsTakenFrom (tm.with_part tid voted (if is_some o then m else put))
      by (Some part) known = record {
        own = is.own;
        inc = is.inc;
        none = is.none;
        known = all_of_tid tid (is_tidy_part c) voted (λ v its. its) m.known is.known;
        parts = λ t part now. at_known t part (changed_seen t tid voted m part now);
        homed = λ t part now. homed_known t part (changed_seen t tid voted m part now);
      }
      by None none = record {
        own = is.own;
        inc = is.inc;
        none = is.none;
        known = all_of_tid tid (is_tidy_part c) voted (λ v its. its) put.known (all_put tid (new_participant (tm.is_home tid m)) (is_tidy_part c) m.known new_tidy is.known);
        parts = λ t part now. at_put t part (changed_seen t tid voted put part now);
        homed = λ t part now. homed_put t part (changed_seen t tid voted put part now);
      }

  commit_taken : (tid : Tid) (told : List NodeNo) (m : Manager) → c.past tid ≡ true → same_node tid.home c.setting.node ≡ true → IsTakenFrom m → IsTakenFrom (tm.take_up_commit tid told m)
  commit_taken tid told m past home is = by (length told == 0)
    where
      at_home : tm.is_home tid m ≡ true
      at_home = subst (λ (n : NodeNo). same_node tid.home n ≡ true) (sym is.own) home

      part_now : Participant
      part_now = committed_before (tm.is_home tid m) told

      new_tidy : is_tidy_part c (tid, part_now) ≡ true
      new_tidy = both_and (c.past tid && same_flag (tm.is_home tid m) (same_node tid.home c.setting.node)) true (both_and (c.past tid) _ past (flag m tid is.own)) refl

      new : IsTaken part_now
      new = record { engage = refl; waiting = refl; asked = refl; blocked = refl; undecided = λ none. absurd (cc (none)); committed = λ its. at_home }

      after : (t : Tid) (part : Participant) → (IsSame t tid m (tm.put_part tid part_now m) part ⊎ IsPut t tid part_now part) → IsTaken part
      after t part (inl same) = is.parts t part same.was
      after t part (inr put) = subst IsTaken (sym put.now) new

      homed : (t : Tid) (part : Participant) → (IsSame t tid m (tm.put_part tid part_now m) part ⊎ IsPut t tid part_now part) → part.engage.home ≡ true → is_some part.outcome ≡ true
      homed t part (inl same) on = is.homed t part same.was on
      homed t part (inr put) on = ap (λ (p : Participant). is_some p.outcome) put.now

      by : (b : Bool) → IsTakenFrom (if b then m else tm.put_part tid part_now m)
      by true = is
      by false = record {
        own = is.own;
        inc = is.inc;
        none = is.none;
        known = all_put tid part_now (is_tidy_part c) m.known new_tidy is.known;
        parts = λ t part now. after t part (put_seen t tid part_now m part now);
        homed = λ t part now. homed t part (put_seen t tid part_now m part now);
      }

  taken : (recs : List Record) (m : Manager) → list_all (is_taken_record c.past c.setting.node) recs ≡ true → IsTakenFrom m → IsTakenFrom (fold take_up m recs)
  taken [] m all is = is
  taken (rec ∷ recs) m all is =
      let both : (is_taken_record c.past c.setting.node rec ≡ true) × (list_all (is_taken_record c.past c.setting.node) recs ≡ true) = and_both (is_taken_record c.past c.setting.node rec) _ all in
      taken recs (take_up m rec) both.1 (one rec both.0)
    where
      one : (rec : Record) → is_taken_record c.past c.setting.node rec ≡ true → IsTakenFrom (take_up m rec)
      one (records.Prepare tid server covers changes) its = vote_taken tid server covers m its is
      one (records.Commit tid told) its = let both : (c.past tid ≡ true) × (same_node tid.home c.setting.node ≡ true) = and_both (c.past tid) _ its in commit_taken tid told m both.0 both.1 is
      one (records.Aborted tid) its = is
      one (records.End tid) its = is

  pub opened_taken : (alloc : Global) (said : Recovery) → IsSaidTidy c.past c.setting.node said → IsTakenFrom (opened_manager alloc c.setting (recovered_as said))
  opened_taken alloc said is = taken (in_doubt said ++ untold said) (new_manager alloc c.setting) (taken_records c.past c.setting.node said is)
      (record { own = refl; inc = refl; none = refl; known = refl; parts = λ t part now. absurd (cc (now)); homed = λ t part now on. absurd (cc (now)) })
