-- What a node has of each transaction as an incarnation of it begins with what its log says.
use Rattle.qs_world_lawful.proofs.Words.{◌≡◌, ◌⊎◌, inl, inr, ℕ, ◌<◌, ◌==◌, ◌&&◌, Bool, true, false, List, [], ◌∷◌, length, Option, Some, None, fold, refl, sym, ap, subst, ◌∙◌, if◌then◌else◌, unwrap_or, fold-append, Global, list_all, lookup, insert_entry, is_at, same_tid, tid_cmp, same_tid-self, same_tid-true, NodeNo, Outcome, Tid, new_engage, no_peer, peer_of, same_node, at_exact, tid_itself, lookup_put, lookup_put_apart, is_recoverable, is_among, TableValue, kept, nothing_held, share_of, Share}
use Rattle.qs_world_lawful.proofs.Words.{Record, Prepared, Recovery, in_doubt, is_in_doubt, names_transaction, untold, new_manager, recovered_as, take_up, Setting, no_member, committed_before, member_of, Manager, Participant, doubt_at, last_doubt, member_as, share_as, part_or_new, Every, and_parts, not-true, same_Some}
use Rattle.qs_base.specs.declared.identifiers.Outcome.TheVariants as outcomes
use Rattle.qs_node_step.specs.Opening.{opened_manager}
use Rattle.qs_tm.specs.Manager as tm
use Rattle.qs_world_lawful.specs.Doubtful.{is_doubt_at}
use Rattle.qs_world_lawful.proofs.Apart.{Apart, same_or_apart}
use Rattle.qs_world_lawful.proofs.RestartTables.{take_changes}
use Rattle.qs_world_lawful.proofs.RestartVotes.{IsSorted}
use Rattle.qs_world_lawful.proofs.TakenCommits.{IsListed, IsTold, commits_taken}
use Rattle.qs_world_lawful.proofs.TakenUp.{Taken, all_alike, node_taken, outcome_before, votes_known, votes_taken}

-- ---- what is in doubt is not committed

pub doubt_none : (done : List Tid) (tid : Tid) (s : ℕ) (votes : List Prepared) → is_among done tid ≡ true → Every (IsSorted done) votes → doubt_at votes tid s ≡ None
doubt_none done tid s votes among sorted = from votes sorted
  where
    clear : (v : Prepared) → IsSorted done v → is_doubt_at tid s v ≡ false
    clear v is = by (is_doubt_at tid s v) refl
      where
        by : (b : Bool) → is_doubt_at tid s v ≡ b → is_doubt_at tid s v ≡ false
        by false e = e
        by true e =
            let both = and_parts (is_in_doubt v) _ e in
            let doubt = and_parts (names_transaction v.tid) _ both.0 in
            let same : v.tid ≡ tid = same_tid-true v.tid tid (and_parts (same_tid v.tid tid) _ both.1).0 in
            absurd (cc (sym (subst (λ (t : Tid). is_among done t ≡ true) (sym same) among) ∙ (is doubt.0 ∙ not-true v.committed doubt.1)))

    from : (vs : List Prepared) → Every (IsSorted done) vs → fold (last_doubt tid s) None vs ≡ None
    from [] all = refl
    from (v ∷ vs) all = subst (λ (b : Bool). fold (last_doubt tid s) (if b then Some v else None) vs ≡ None) (sym (clear v all.0)) (from vs all.1)

-- ---- what the manager knows

-- a vote is taken up, or a Commit
pub record IsVote (home : Bool) (Q : Type 0) (part : Participant) : Type 0 where
  pub involved : part.involved ≡ true
  pub prepared : part.log.prepared ≡ true
  pub unlisted : part.log.listed ≡ false
  pub outcome : part.outcome ≡ outcome_before home
  pub so : Q

pub record IsCommit (done : List Tid) (tid : Tid) (part : Participant) : Type 0 where
  pub unprepared : part.log.prepared ≡ false
  pub outcome : part.outcome ≡ Some outcomes.Commit
  pub among : is_among done tid ≡ true

abbrev pub IsMarkedAs : Bool → List Tid → Tid → Type 0 → Participant → Type 0
IsMarkedAs home done tid Q part = IsVote home Q part ⊎ IsCommit done tid part

-- of one transaction: what stands in doubt of it is taken up, and then `Q` holds; or its Commit is
pub record IsReopened (home : Bool) (done : List Tid) (tid : Tid) (Q : Type 0) (votes : ℕ → Option Prepared) (known : Option Participant) : Type 0 where
  pub sized : length (part_or_new known).members ≡ 7
  pub asked : (part_or_new known).asked ≡ false
  pub members : (s : ℕ) → s < 7 → member_of (part_or_new known) (record { 0 = s }) ≡ member_as (votes s)
  pub sent : (peer : NodeNo) → (peer_of (part_or_new known).engage peer).sent ≡ 0
  pub outcome : (o : Outcome) → (part_or_new known).outcome ≡ Some o → ((o ≡ outcomes.Abort) × (home ≡ true) × Q) ⊎ ((o ≡ outcomes.Commit) × (is_among done tid ≡ true))
  pub marks : (part : Participant) → known ≡ Some part → IsMarkedAs home done tid Q part

nothing_sent : (home : Bool) (peer : NodeNo) → (peer_of (new_engage home) peer).sent ≡ 0
nothing_sent home peer = ap (λ p. p.sent) (all_alike 16 peer.0 no_peer)

taken_reopened : (home : Bool) (done : List Tid) (tid : Tid) (Q : Type 0) (votes : ℕ → Option Prepared) (o : Option Participant) → ((part : Participant) → o ≡ Some part → Q) → Taken home votes o → IsReopened home done tid Q votes o
taken_reopened home done tid Q votes None q none = record {
  sized = refl;
  asked = refl;
  members = λ s low. all_alike 7 s no_member ∙ ap member_as (sym (none s));
  sent = λ peer. nothing_sent false peer;
  outcome = λ o is. absurd (cc is);
  marks = λ part is. absurd (cc is);
}
taken_reopened home done tid Q votes (Some part) q h = record {
  sized = h.places;
  asked = h.asked;
  members = h.members;
  sent = λ peer. ap (λ e. (peer_of e peer).sent) h.engage ∙ nothing_sent home peer;
  outcome = λ o is. inl (of home h.outcome o is);
  marks = λ p is. subst (IsMarkedAs home done tid Q) (same_Some part p is) (inl (record { involved = h.involved; prepared = h.prepared; unlisted = h.unlisted; outcome = h.outcome; so = q part refl }));
}
  where
    of : (b : Bool) → part.outcome ≡ outcome_before b → (o : Outcome) → part.outcome ≡ Some o → (o ≡ outcomes.Abort) × (b ≡ true) × Q
    of true is o at = (ap (λ (x : Option Outcome). elim x [ None ↦ o | Some y ↦ y ]) (sym at ∙ is), refl, q part refl)
    of false is o at = absurd (cc (sym is ∙ at))

told_reopened : (home : Bool) (done : List Tid) (tid : Tid) (Q : Type 0) (votes : ℕ → Option Prepared) → ((s : ℕ) → votes s ≡ None) → (o : Option Participant) → IsTold home done tid o → IsReopened home done tid Q votes o
told_reopened home done tid Q votes none o t = subst (IsReopened home done tid Q votes) (sym t.is) (record {
  sized = refl;
  asked = refl;
  members = λ s low. all_alike 7 s no_member ∙ ap member_as (sym (none s));
  sent = λ peer. nothing_sent home peer;
  outcome = λ x is. inr (ap (λ (y : Option Outcome). elim y [ None ↦ x | Some z ↦ z ]) (sym is), t.listed);
  marks = λ p is. subst (IsMarkedAs home done tid Q) (same_Some (committed_before home t.told) p is) (inr (record { unprepared = refl; outcome = refl; among = t.listed }));
})

module _ (alloc : Global) (setting : Setting) (log : Recovery) (kinds : list_all (λ (v : Prepared). is_recoverable v.server.0) log.prepared ≡ true) (sorted : Every (IsSorted log.committed) log.prepared) (listed : Every (IsListed log.committed) log.untold) (tid : Tid) where
  abbrev first : Manager
  first = new_manager alloc setting

  abbrev mid : Manager
  mid = fold take_up first (in_doubt log)

  abbrev pub is_here : Bool
  is_here = same_node tid.home setting.node

  nodes_taken : (recs : List Record) (m : Manager) → (fold take_up m recs).node ≡ m.node
  nodes_taken [] m = refl
  nodes_taken (rec ∷ recs) m = nodes_taken recs (take_up m rec) ∙ node_taken tid rec m

  votes : Taken is_here (λ s. doubt_at log.prepared tid s) (tm.part_of tid mid)
  votes = votes_taken tid is_here log.prepared (λ s. None) first kinds refl (λ s. refl)

  ends : (tm.part_of tid (fold take_up mid (untold log)) ≡ tm.part_of tid mid) ⊎ IsTold is_here log.committed tid (tm.part_of tid (fold take_up mid (untold log)))
  ends = commits_taken tid is_here log.committed log.untold mid (ap (λ (k : NodeNo). same_node tid.home k) (nodes_taken (in_doubt log) first)) listed

  -- and `Q` holds of each transaction that stands in doubt
  pub manager_reopened : (Q : Tid → Type 0) → Every (λ (v : Prepared). is_in_doubt v ≡ true → Q v.tid) log.prepared → IsReopened is_here log.committed tid (Q tid) (λ s. doubt_at log.prepared tid s) (tm.part_of tid (opened_manager alloc setting (recovered_as log)))
  manager_reopened Q all = subst (λ (m : Manager). IsReopened is_here log.committed tid (Q tid) (λ s. doubt_at log.prepared tid s) (tm.part_of tid m)) (sym (fold-append take_up first (in_doubt log) (untold log))) (by ends)
    where
      so : (part : Participant) → tm.part_of tid mid ≡ Some part → Q tid
      so part is = of (votes_known tid Q log.prepared first all)
        where
          of : (tm.part_of tid mid ≡ None) ⊎ Q tid → Q tid
          of (inl none) = absurd (cc (sym none ∙ is))
          of (inr q) = q

      by : (tm.part_of tid (fold take_up mid (untold log)) ≡ tm.part_of tid mid) ⊎ IsTold is_here log.committed tid (tm.part_of tid (fold take_up mid (untold log))) → IsReopened is_here log.committed tid (Q tid) (λ s. doubt_at log.prepared tid s) (tm.part_of tid (fold take_up mid (untold log)))
      by (inl same) = subst (IsReopened is_here log.committed tid (Q tid) (λ s. doubt_at log.prepared tid s)) (sym same) (taken_reopened is_here log.committed tid (Q tid) (λ s. doubt_at log.prepared tid s) (tm.part_of tid mid) so votes)
      by (inr told) = told_reopened is_here log.committed tid (Q tid) (λ s. doubt_at log.prepared tid s) (λ s. doubt_none log.committed tid s log.prepared told.listed sorted) (tm.part_of tid (fold take_up mid (untold log))) told

-- ---- what it holds at a server that keeps its changes in the log

module _ (tid : Tid) (s : ℕ) where
  abbrev HasShare : Option Prepared → TableValue → Type 0
  HasShare vote table = share_of table tid ≡ share_as vote

  share_one : (v : Prepared) (before : Option Prepared) (table : TableValue) → HasShare before table → HasShare (last_doubt tid s before v) (take_changes s table v)
  share_one v before table h = by (is_in_doubt v) (v.server.0 == s) (same_or_apart v.tid tid)
    where
      put : Share
      put = record { changes = v.changes; reads = []; operations = length v.changes; voted = false }

      by : (b c : Bool) → (v.tid ≡ tid) ⊎ Apart v.tid tid → HasShare (if b && (same_tid v.tid tid && c) then Some v else before) (if b && c then kept table (record { tid = v.tid; changes = v.changes }) else table)
      by false c same = h
      by true c (inr far) = rw far.by (left c)
        where
          left : (c : Bool) → HasShare before (if c then kept table (record { tid = v.tid; changes = v.changes }) else table)
          left false = h
          left true = ap (λ (o : Option Share). unwrap_or o nothing_held) (lookup_put_apart tid_cmp v.tid put (λ x e. at_exact v.tid x (rw e refl)) (is_at (tid_cmp tid)) far.at table.shares) ∙ h
      by true c (inl same) = subst (λ (b : Bool). HasShare (if b && c then Some v else before) (if c then kept table (record { tid = v.tid; changes = v.changes }) else table)) (sym (subst (λ (u : Tid). same_tid u tid ≡ true) (sym same) (same_tid-self tid))) (own c)
        where
          own : (c : Bool) → HasShare (if c then Some v else before) (if c then kept table (record { tid = v.tid; changes = v.changes }) else table)
          own false = h
          own true = subst (λ (u : Tid). unwrap_or (lookup (is_at (tid_cmp tid)) (insert_entry tid_cmp table.shares u put)) nothing_held ≡ put) (sym same) (ap (λ (o : Option Share). unwrap_or o nothing_held) (lookup_put tid_cmp tid put (tid_itself tid) table.shares))

  pub share_taken : (votes : List Prepared) (before : Option Prepared) (table : TableValue) → HasShare before table → HasShare (fold (last_doubt tid s) before votes) (fold (take_changes s) table votes)
  share_taken [] before table h = h
  share_taken (v ∷ votes) before table h = share_taken votes (last_doubt tid s before v) (take_changes s table v) (share_one v before table h)

-- ---- what is found in doubt

pub doubt_is : (P : Prepared → Type 0) (tid : Tid) (s : ℕ) (votes : List Prepared) → Every P votes → (v : Prepared) → doubt_at votes tid s ≡ Some v → P v × (is_doubt_at tid s v ≡ true)
doubt_is P tid s votes all v is = from votes all None (λ w e. absurd (cc e)) v is
  where
    one : (x : Prepared) → P x → (o : Option Prepared) → ((w : Prepared) → o ≡ Some w → P w × (is_doubt_at tid s w ≡ true)) → (w : Prepared) → last_doubt tid s o x ≡ Some w → P w × (is_doubt_at tid s w ≡ true)
    one x p o h w e = by (is_doubt_at tid s x) refl e
      where
        by : (b : Bool) → is_doubt_at tid s x ≡ b → (if b then Some x else o) ≡ Some w → P w × (is_doubt_at tid s w ≡ true)
        by true at e = subst (λ (y : Prepared). P y × (is_doubt_at tid s y ≡ true)) (ap (λ (q : Option Prepared). elim q [ None ↦ x | Some y ↦ y ]) e) (p, at)
        by false at e = h w e

    from : (vs : List Prepared) → Every P vs → (o : Option Prepared) → ((w : Prepared) → o ≡ Some w → P w × (is_doubt_at tid s w ≡ true)) → (w : Prepared) → fold (last_doubt tid s) o vs ≡ Some w → P w × (is_doubt_at tid s w ≡ true)
    from [] none o h w e = h w e
    from (x ∷ vs) each o h w e = from vs each.1 (last_doubt tid s o x) (one x each.0 o h) w e
