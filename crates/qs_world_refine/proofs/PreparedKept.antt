-- What a step keeps of a transaction of which it logged a record of some kind: each change leaves it so, or its End was logged.
use Rattle.qs_world_refine.proofs.Words.{◌≡◌, ◌⊎◌, inl, inr, ℕ, ◌&&◌, ◌||◌, not, Bool, true, false, List, [], ◌∷◌, ◌++◌, Option, Some, None, is_none, is_some, refl, sym, ap, subst, ◌∙◌, if◌then◌else◌, list_any-append, list_any, lookup, is_at, tid_cmp, same_tid, NodeNo, Tid, same_node, Record, aborted_participant, is_undecided, is_forgotten, new_participant, Manager, Participant, log, tid_of, Work, part_of, doings_of, with_manager, is_engaged, IsPlain, MayForget, is_decided, not-true, or_cases}
use Rattle.qs_world_refine.proofs.Words.{or_left, or_right, never_not}
use Rattle.qs_base.specs.declared.identifiers.Outcome.{Outcome}
use Rattle.qs_engage.specs.Engage as engage
use Rattle.qs_engage.specs.declared.engage.Engage.{Engage}
use Rattle.qs_record.specs.declared.record.Record.TheVariants as records
use Rattle.qs_tm.specs.Manager as tm
use Rattle.qs_tm.specs.Outcomes as outcome_rules
use Rattle.qs_tm.specs.Participant as participant
use Rattle.qs_world_refine.specs.CutLaws.{is_prepare_of}
use Rattle.qs_world_refine.proofs.Frames.{part_apart}
use Rattle.qs_world_refine.proofs.Others.{put_apart}
use Rattle.qs_world_refine.proofs.OthersCame.{forget_leaves}
use Rattle.qs_world_refine.proofs.SoundHolds.{told_with, is_held, told_part}
use Rattle.qs_world_refine.proofs.SoundKnown.{same_is}
use Rattle.qs_world_refine.proofs.SoundParts.{and_both}
use Rattle.qs_world_refine.proofs.TurnOn.{is_end_of}

-- ---- what holds in the middle of a step

-- where such a record was logged the transaction is kept as such, or ended
abbrev pub KeptIn : (Participant → Bool) → (Record → Bool) → Tid → Work → Type 0
KeptIn g p t work = list_any p work.out.records ≡ true → (tm.told_of t false g work.node.manager ≡ true) ⊎ (list_any (is_end_of t) work.out.records ≡ true)

-- a Prepare is noted
abbrev pub NotedIn : Tid → Work → Type 0
NotedIn t work = list_any (is_prepare_of t) work.out.records ≡ true → (doings_of t work).prepared ≡ true

pub one_more : (p : Record → Bool) (rs : List Record) (r : Record) → list_any p (rs ++ r ∷ []) ≡ (list_any p rs || (p r || false))
one_more p rs r = list_any-append p rs (r ∷ [])

-- ---- what each change leaves of a participant

-- so it is with each change that leaves home, superior and outcome, and with each request that comes
pub record Lasts (g : Participant → Bool) : Type 0 where
  pub plain : (p q : Participant) → IsPlain p q → g p ≡ true → g q ≡ true
  pub ask : (p : Participant) → g p ≡ true → g (participant.ask p) ≡ true
  pub logged : (rec : Record) (p : Participant) → g p ≡ true → g (outcome_rules.logged rec p) ≡ true
  pub requested : (peer : NodeNo) (number : ℕ) (p : Participant) → g p ≡ true → g (participant.requested peer number p) ≡ true
  pub decides : (outcome : Outcome) (p : Participant) → g (outcome_rules.decided outcome p) ≡ true
  pub takes : (outcome : Outcome) (p : Participant) → g (outcome_rules.took_outcome outcome p) ≡ true
  pub forgotten : (p : Participant) → is_forgotten p ≡ true → g p ≡ true → ⊥

pub held_lasts : Lasts is_held
held_lasts = record {
  plain = λ p q plain is. rw (plain.home, plain.outcome, plain.superior) is;
  ask = λ p is. is;
  logged = λ rec p is. is;
  requested = requested;
  decides = λ outcome p. outcome_held p.engage.home (is_some p.engage.superior);
  takes = λ outcome p. outcome_held p.engage.home (is_some p.engage.superior);
  forgotten = forgotten;
}
  where
    requested : (peer : NodeNo) (number : ℕ) (p : Participant) → is_held p ≡ true → is_held (participant.requested peer number p) ≡ true
    requested peer number p is = by p.engage.home p.engage.superior refl refl is
      where
        test : Bool → Bool → Bool → Bool
        test h u s = not (not h && (u && not (if h then u else s)))

        sent : Engage → Engage
        sent e = engage.with_last peer number e

        now : (h u : Bool) → h ≡ false → test h u true ≡ true
        now true u away = absurd (cc away)
        now false true away = refl
        now false false away = refl

        by : (h : Bool) (o : Option NodeNo) → p.engage.home ≡ h → p.engage.superior ≡ o → test p.engage.home (is_undecided p) (is_some p.engage.superior) ≡ true
            → is_held (record p { engage = if h then sent p.engage else elim o [ None ↦ record (sent p.engage) { superior = Some peer; last_superior = Some peer } | Some superior ↦ sent p.engage ] }) ≡ true
        by true o at so was = was
        by false None at so was = now p.engage.home (is_undecided p) at
        by false (Some superior) at so was = was

    outcome_held : (h s : Bool) → not (not h && (false && not (if h then false else s))) ≡ true
    outcome_held true s = refl
    outcome_held false s = refl

    forgotten : (p : Participant) → is_forgotten p ≡ true → is_held p ≡ true → ⊥
    forgotten p is held = by p.engage.home (is_undecided p) p.engage.superior (and_both (is_undecided p) _ both.0).0 (not-true p.engage.home (and_both (is_undecided p) _ both.0).1)
        (and_both (is_none p.engage.superior) _ (and_both (is_none p.engage.superior && not p.involved) _ both.1).0).0 held
      where
        both : ((is_undecided p && not p.engage.home) ≡ true) × (((is_none p.engage.superior && not p.involved) && (Rattle.qs_engage.specs.Nodes.is_no_node p.told && Rattle.qs_tm.specs.Participant.only_read p)) ≡ true)
        both = and_both (is_undecided p && not p.engage.home) _ is

        by : (h u : Bool) (o : Option NodeNo) → u ≡ true → h ≡ false → is_none o ≡ true → not (not h && (u && not (if h then u else is_some o))) ≡ true → ⊥
        by true u o now away none so = absurd (cc away)
        by false true None now away none so = absurd (cc so)
        by false true (Some x) now away none so = absurd (cc none)
        by false false o now away none so = absurd (cc now)

pub decided_lasts : Lasts is_decided
decided_lasts = record {
  plain = λ p q plain is. rw plain.outcome is;
  ask = λ p is. is;
  logged = λ rec p is. is;
  requested = λ peer number p is. is;
  decides = λ outcome p. refl;
  takes = λ outcome p. refl;
  forgotten = λ p is so. never_not (is_undecided p) (and_both (is_undecided p) _ (and_both (is_undecided p && not p.engage.home) _ is).0).0 so;
}

pub engaged_held : (p : Participant) → is_engaged p ≡ true → is_held p ≡ true
engaged_held p is = by p.engage.home (is_undecided p) (is_some p.engage.superior) is
  where
    by : (h u s : Bool) → (if h then u else s) ≡ true → not (not h && (u && not (if h then u else s))) ≡ true
    by true u s is = refl
    by false true true is = refl
    by false true false is = absurd (cc is)
    by false false s is = refl

-- ---- and of what a node keeps

module _ (t : Tid) (g : Participant → Bool) (p : Record → Bool) (l : Lasts g) where
  abbrev pub told : Manager → Bool
  told m = tm.told_of t false g m

  abbrev pub Kept : Work → Type 0
  Kept work = KeptIn g p t work

  pub kept_on : (work new : Work) → new.out.records ≡ work.out.records → (told work.node.manager ≡ true → told new.node.manager ≡ true) → Kept work → Kept new
  kept_on work new records held is has = by (is (subst (λ (rs : List Record). list_any p rs ≡ true) records has))
    where
      by : (told work.node.manager ≡ true) ⊎ (list_any (is_end_of t) work.out.records ≡ true) → (told new.node.manager ≡ true) ⊎ (list_any (is_end_of t) new.out.records ≡ true)
      by (inl so) = inl (held so)
      by (inr ended) = inr (subst (λ (rs : List Record). list_any (is_end_of t) rs ≡ true) (sym records) ended)

  pub kept_still : (work new : Work) → new.out.records ≡ work.out.records → new.node.manager.known ≡ work.node.manager.known → Kept work → Kept new
  kept_still work new records known = kept_on work new records (λ so. ap (λ (es : List (Tid × Participant)). elim (lookup (is_at (tid_cmp t)) es) [ None ↦ false | Some q ↦ g q ]) known ∙ so)

  same_as : (o q : Option Participant) → q ≡ o → ◌≡◌ {A = Bool} (elim o [ None ↦ false | Some x ↦ g x ]) true → ◌≡◌ {A = Bool} (elim q [ None ↦ false | Some x ↦ g x ]) true
  same_as o q is so = rw is so

  pub part_kept : (tid : Tid) (f : Participant → Participant) (m : Manager) → (same_tid t tid ≡ true → (q : Participant) → g q ≡ true → g (f q) ≡ true) → told m ≡ true → told (tm.with_part tid f m) ≡ true
  part_kept tid f m more is = by (same_tid t tid) refl
    where
      own : ((q : Participant) → g q ≡ true → g (f q) ≡ true) → told (tm.with_part t f m) ≡ true
      own more = told_with t false g f m ∙ at (tm.part_of t m) is
        where
          at : (o : Option Participant) → ◌≡◌ {A = Bool} (elim o [ None ↦ false | Some q ↦ g q ]) true → ◌≡◌ {A = Bool} (elim o [ None ↦ false | Some q ↦ g (f q) ]) true
          at None so = so
          at (Some part) so = more part so

      by : (b : Bool) → same_tid t tid ≡ b → told (tm.with_part tid f m) ≡ true
      by true same = subst (λ (u : Tid). told (tm.with_part u f m) ≡ true) (same_is t tid same) (own (more same))
      by false apart = same_as (tm.part_of t m) (tm.part_of t (tm.with_part tid f m)) (part_apart t tid f m apart) is

  pub of_part : (tid : Tid) (f : Participant → Participant) (work : Work) → (same_tid t tid ≡ true → (q : Participant) → g q ≡ true → g (f q) ≡ true) → Kept work → Kept (with_manager (tm.with_part tid f) work)
  of_part tid f work more is = kept_on work (with_manager (tm.with_part tid f) work) refl (part_kept tid f work.node.manager more) is

  pub logs : (rec : Record) (work : Work) → ((p rec || false) ≡ true → told work.node.manager ≡ true) → Kept work → Kept (log rec work)
  logs rec work may is has = by (or_cases (list_any p work.out.records) (p rec || false) (sym (one_more p work.out.records rec) ∙ has))
    where
      logged : told work.node.manager ≡ true → told (log rec work).node.manager ≡ true
      logged = part_kept (tid_of rec) (outcome_rules.logged rec) work.node.manager (λ _. l.logged rec)

      then_kept : (told work.node.manager ≡ true) ⊎ (list_any (is_end_of t) work.out.records ≡ true) → (told (log rec work).node.manager ≡ true) ⊎ (list_any (is_end_of t) (work.out.records ++ rec ∷ []) ≡ true)
      then_kept (inl so) = inl (logged so)
      then_kept (inr ended) = inr (one_more (is_end_of t) work.out.records rec ∙ or_left (list_any (is_end_of t) work.out.records) (is_end_of t rec || false) ended)

      by : (list_any p work.out.records ≡ true) ⊎ ((p rec || false) ≡ true) → (told (log rec work).node.manager ≡ true) ⊎ (list_any (is_end_of t) (work.out.records ++ rec ∷ []) ≡ true)
      by (inl before) = then_kept (is before)
      by (inr here) = inl (logged (may here))

  -- ---- what comes to be known or unknown

  known_not : (o : Option Participant) → ◌≡◌ {A = Bool} (elim o [ None ↦ false | Some q ↦ g q ]) true → o ≡ None → ⊥
  known_not None so is = cc so
  known_not (Some q) so is = cc is

  put_kept : (tid : Tid) (part : Participant) (m : Manager) → tm.part_of tid m ≡ None → told m ≡ true → told (tm.put_part tid part m) ≡ true
  put_kept tid part m none is = by (same_tid t tid) refl
    where
      by : (b : Bool) → same_tid t tid ≡ b → told (tm.put_part tid part m) ≡ true
      by true same = absurd (known_not (tm.part_of t m) is (subst (λ (u : Tid). tm.part_of u m ≡ None) (sym (same_is t tid same)) none))
      by false apart = same_as (tm.part_of t m) (tm.part_of t (tm.put_part tid part m)) (put_apart t tid part m apart) is

  pub met_kept : (tid : Tid) (m : Manager) → told m ≡ true → told (tm.meet tid m) ≡ true
  met_kept tid m is = by (tm.part_of tid m) refl
    where
      by : (o : Option Participant) → tm.part_of tid m ≡ o → told (if is_some o then m else tm.put_part tid (new_participant (tm.is_home tid m)) m) ≡ true
      by (Some part) known = is
      by None none = put_kept tid (new_participant (tm.is_home tid m)) m none is

  pub aborted_kept : (tid : Tid) (m : Manager) → told m ≡ true → told (tm.keep_abort tid m) ≡ true
  aborted_kept tid m is = by (tm.part_of tid m) refl
    where
      by : (o : Option Participant) → tm.part_of tid m ≡ o → told (if is_some o then m else tm.put_part tid (aborted_participant (tm.is_home tid m)) m) ≡ true
      by (Some part) known = is
      by None none = put_kept tid (aborted_participant (tm.is_home tid m)) m none is

  pub forgets : (me : NodeNo) (tid : Tid) (part : Participant) (work : Work) → part_of tid work ≡ Some part → MayForget me tid part work → Kept work → Kept (with_manager (tm.forget tid) work)
  forgets me tid part work known may is has = by (same_tid t tid) refl (is has)
    where
      own : MayForget me tid part work → same_tid t tid ≡ true → told work.node.manager ≡ true → list_any (is_end_of t) work.out.records ≡ true
      own (inl read) same so = absurd (l.forgotten part read.1 (told_part g tid work.node.manager part known (subst (λ (u : Tid). tm.told_of u false g work.node.manager ≡ true) (same_is t tid same) so)))
      own (inr ended) same so = rw ended.1.1 (one_more (is_end_of t) ended.1.0 (records.End tid) ∙ or_right (list_any (is_end_of t) ended.1.0) (same_tid t tid || false) (or_left (same_tid t tid) false same))

      by : (b : Bool) → same_tid t tid ≡ b → (told work.node.manager ≡ true) ⊎ (list_any (is_end_of t) work.out.records ≡ true) → (told (tm.forget tid work.node.manager) ≡ true) ⊎ (list_any (is_end_of t) work.out.records ≡ true)
      by b same (inr ended) = inr ended
      by true same (inl so) = inr (own may same so)
      by false apart (inl so) = inl (same_as (tm.part_of t work.node.manager) (tm.part_of t (tm.forget tid work.node.manager)) (forget_leaves t tid apart work).node.part so)
