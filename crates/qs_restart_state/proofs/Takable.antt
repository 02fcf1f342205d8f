-- What every log says: each vote once, Commits with their lists, and votes that wait with their Commits; and so what a coherent log says.
use Rattle.std.proofs.Common.{◌≡◌, ◌⊎◌, ◌∙◌, Bool, true, false, List, [], ◌∷◌, ◌++◌, refl, sym, ap, fold, map, inl, inr}
use Rattle.std.specs.Prelude.{not, ◌&&◌, ◌||◌, if◌then◌else◌}
use Rattle.std.specs.List.{filter, list_any, list_all}
use Rattle.std.proofs.lemmas.Bool.{and_from, not-true, not_from_false, or_cases, or_from, or_left, or_parts, or_right}
use Rattle.std.proofs.lemmas.List.Folds.{list_any-append, list_all-append}
use Rattle.qs_base.specs.Order.{same_tid}
use Rattle.qs_base.specs.declared.identifiers.NodeNo.{NodeNo}
use Rattle.qs_base.specs.declared.identifiers.ServerNo.{ServerNo}
use Rattle.qs_base.specs.declared.identifiers.Tid.{Tid}
use Rattle.qs_base.proofs.Same.{same_tid-true, same_tid-self}
use Rattle.qs_base_lemmas.proofs.Tests.{and_first, and_last, implied, never_both}
use Rattle.qs_record.specs.declared.record.Record.{Record}
use Rattle.qs_record.specs.declared.record.Record.TheVariants as records
use Rattle.qs_restart.specs.Recovery.{Prepared, Untold, Recovery, files_no, audit_no, extra_no, names_transaction, is_of, is_vote_of, is_untold_of, mark_committed, changes_at, nothing_said, found_record, ended, recovery}
use Rattle.qs_restart.proofs.Behind.{same_tid-flip}
use Rattle.qs_restart_state.specs.Alike.{is_among}
use Rattle.qs_restart_state.specs.States.{is_doubt, is_numbered, is_undecided}
use Rattle.qs_restart_state.specs.Taken.{EachMayTake, are_once, has_list, is_flagged, is_listed_among, is_of_none, is_waiting, same_flag}
use Rattle.qs_restart_state.proofs.Lists.{all_more, all_within, none_left, none_within}
use Rattle.qs_restart_state.proofs.Saying.{vote_flip}

-- the Commit's transaction, where it is one, is among the committed
is_known : List Tid → Untold → Bool
is_known committed commit = not (is_numbered commit) || is_among committed commit.tid

record IsKept (said : Recovery) : Type 0 where
  once : are_once said.prepared ≡ true
  listed : list_all has_list said.untold ≡ true
  known : list_all (is_known said.committed) said.untold ≡ true
  waiting : list_all (is_waiting said.untold) said.prepared ≡ true

-- ---- each vote once

once_within : (p : Prepared → Bool) (votes : List Prepared) → are_once votes ≡ true → are_once (filter p votes) ≡ true
once_within p [] h = refl
once_within p (v ∷ votes) h = by (p v) refl (once_within p votes (and_last _ (are_once votes) h))
  where
    by : (b : Bool) → p v ≡ b → are_once (filter p votes) ≡ true → are_once (filter p (v ∷ votes)) ≡ true
    by true is more = rw is (and_from _ (are_once (filter p votes))
        (not_from_false _ (none_within (is_vote_of v.tid v.server) p votes (not-true _ (and_first _ (are_once votes) h)))) more)
    by false is more = rw is more

-- one more, of which no other stands
once_more : (votes : List Prepared) (w : Prepared) → are_once votes ≡ true → list_any (is_vote_of w.tid w.server) votes ≡ false → are_once (votes ++ w ∷ []) ≡ true
once_more [] w h off = refl
once_more (v ∷ votes) w h off =
    let n = or_parts (is_vote_of w.tid w.server v) (list_any (is_vote_of w.tid w.server) votes) off in
    and_from _ (are_once (votes ++ w ∷ []))
    (not_from_false _ (list_any-append (is_vote_of v.tid v.server) votes (w ∷ [])
    ∙ or_from _ _ (not-true _ (and_first _ (are_once votes) h)) (or_from _ false (vote_flip v w ∙ n.0) refl)))
    (once_more votes w (and_last _ (are_once votes) h) n.1)

marked_same : (tid : Tid) (other : Tid) (server : ServerNo) (v : Prepared) → is_vote_of other server (mark_committed tid v) ≡ is_vote_of other server v
marked_same tid other server v = by (is_of tid v) refl
  where
    by : (b : Bool) → is_of tid v ≡ b → is_vote_of other server (mark_committed tid v) ≡ is_vote_of other server v
    by true is = rw is refl
    by false is = rw is refl

once_marked : (tid : Tid) (votes : List Prepared) → are_once votes ≡ true → are_once (map (mark_committed tid) votes) ≡ true
once_marked tid [] h = refl
once_marked tid (v ∷ votes) h = by (is_of tid v) refl (once_marked tid votes (and_last _ (are_once votes) h))
  where
    none : (others : List Prepared) → list_any (is_vote_of v.tid v.server) others ≡ false → list_any (is_vote_of v.tid v.server) (map (mark_committed tid) others) ≡ false
    none [] off = refl
    none (w ∷ others) off =
        let n = or_parts (is_vote_of v.tid v.server w) (list_any (is_vote_of v.tid v.server) others) off in
        or_from _ (list_any (is_vote_of v.tid v.server) (map (mark_committed tid) others)) (marked_same tid v.tid v.server w ∙ n.0) (none others n.1)

    both : are_once (map (mark_committed tid) votes) ≡ true → (not (list_any (is_vote_of v.tid v.server) (map (mark_committed tid) votes)) && are_once (map (mark_committed tid) votes)) ≡ true
    both more = and_from _ (are_once (map (mark_committed tid) votes)) (not_from_false _ (none votes (not-true _ (and_first _ (are_once votes) h)))) more

    by : (b : Bool) → is_of tid v ≡ b → are_once (map (mark_committed tid) votes) ≡ true → are_once (map (mark_committed tid) (v ∷ votes)) ≡ true
    by true is more = rw is (both more)
    by false is more = rw is (both more)

-- ---- votes wait with their Commits

-- what ends one transaction leaves the Commits of others
others_left : (tid : Tid) (t : Tid) (commits : List Untold) → same_tid t tid ≡ false → list_any (is_untold_of t) commits ≡ true → list_any (is_untold_of t) (filter (λ c. not (is_untold_of tid c)) commits) ≡ true
others_left tid t [] far h = absurd (cc h)
others_left tid t (c ∷ commits) far h = by (is_untold_of tid c) refl (or_cases (is_untold_of t c) (list_any (is_untold_of t) commits) h) (others_left tid t commits far)
  where
    by : (b : Bool) → is_untold_of tid c ≡ b → (is_untold_of t c ≡ true) ⊎ (list_any (is_untold_of t) commits ≡ true)
        → (list_any (is_untold_of t) commits ≡ true → list_any (is_untold_of t) (filter (λ d. not (is_untold_of tid d)) commits) ≡ true)
        → list_any (is_untold_of t) (filter (λ d. not (is_untold_of tid d)) (c ∷ commits)) ≡ true
    by true is (inl its) more = absurd (never_both (same_tid t tid) (ap (λ (x : Tid). same_tid x tid) (sym (same_tid-true c.tid t its)) ∙ is) far)
    by true is (inr rest) more = rw is (more rest)
    by false is (inl its) more = rw is (or_left (is_untold_of t c) _ its)
    by false is (inr rest) more = rw is (or_right (is_untold_of t c) _ (more rest))

waits_ended : (tid : Tid) (commits : List Untold) (votes : List Prepared) → list_all (is_waiting commits) votes ≡ true
    → list_all (is_waiting (filter (λ c. not (is_untold_of tid c)) commits)) (filter (λ v. not (is_of tid v)) votes) ≡ true
waits_ended tid commits [] h = refl
waits_ended tid commits (v ∷ votes) h = by (is_of tid v) refl (waits_ended tid commits votes (and_last (is_waiting commits v) (list_all (is_waiting commits) votes) h))
  where
    left : List Untold
    left = filter (λ c. not (is_untold_of tid c)) commits

    waits : is_of tid v ≡ false → (b : Bool) → v.committed ≡ b → is_waiting commits v ≡ true → (not v.committed || list_any (is_untold_of v.tid) (filter (λ c. not (is_untold_of tid c)) commits)) ≡ true
    waits far true is w = or_right (not v.committed) _ (others_left tid v.tid commits far (implied v.committed _ is w))
    waits far false is w = or_left (not v.committed) _ (not_from_false v.committed is)

    by : (b : Bool) → is_of tid v ≡ b → list_all (is_waiting (filter (λ c. not (is_untold_of tid c)) commits)) (filter (λ w. not (is_of tid w)) votes) ≡ true
        → list_all (is_waiting (filter (λ c. not (is_untold_of tid c)) commits)) (filter (λ w. not (is_of tid w)) (v ∷ votes)) ≡ true
    by true is more = rw is more
    by false is more = rw is (and_from _ _ (waits is v.committed refl (and_first (is_waiting commits v) (list_all (is_waiting commits) votes) h)) more)

waits_marked : (tid : Tid) (told : List NodeNo) (commits : List Untold) (votes : List Prepared) → list_all (is_waiting commits) votes ≡ true
    → list_all (is_waiting (commits ++ record { tid = tid; told = told } ∷ [])) (map (mark_committed tid) votes) ≡ true
waits_marked tid told commits [] h = refl
waits_marked tid told commits (v ∷ votes) h =
    and_from _ _ (by (is_of tid v) refl v.committed refl (and_first (is_waiting commits v) (list_all (is_waiting commits) votes) h))
    (waits_marked tid told commits votes (and_last (is_waiting commits v) (list_all (is_waiting commits) votes) h))
  where
    mine : Untold
    mine = record { tid = tid; told = told }

    now : (t : Tid) → list_any (is_untold_of t) (commits ++ record { tid = tid; told = told } ∷ []) ≡ (list_any (is_untold_of t) commits || (same_tid tid t || false))
    now t = list_any-append (is_untold_of t) commits (record { tid = tid; told = told } ∷ [])

    by : (b : Bool) → is_of tid v ≡ b → (c : Bool) → v.committed ≡ c → is_waiting commits v ≡ true → is_waiting (commits ++ record { tid = tid; told = told } ∷ []) (mark_committed tid v) ≡ true
    by true is c so w = rw is (now v.tid ∙ or_right (list_any (is_untold_of v.tid) commits) _ (or_left (same_tid tid v.tid) false (same_tid-flip tid v.tid ∙ is)))
    by false is true so w = rw is (or_right (not v.committed) _ (now v.tid ∙ or_left _ _ (implied v.committed _ so w)))
    by false is false so w = rw is (or_left (not v.committed) _ (not_from_false v.committed so))

-- ---- record by record

known_more : (committed new : List Tid) (commits : List Untold) → list_all (is_known committed) commits ≡ true → list_all (is_known (committed ++ new)) commits ≡ true
unfolding is_known
known_more committed new commits h = all_more (is_known committed) (is_known (committed ++ new)) commits more h
  where
    more : (c : Untold) → is_known committed c ≡ true → is_known (committed ++ new) c ≡ true
    more c is = by (or_cases (not (is_numbered c)) (is_among committed c.tid) is)
      where
        by : (not (is_numbered c) ≡ true) ⊎ (is_among committed c.tid ≡ true) → (not (is_numbered c) || is_among (committed ++ new) c.tid) ≡ true
        by (inl off) = or_left (not (is_numbered c)) _ off
        by (inr its) = or_right (not (is_numbered c)) _ (list_any-append (same_tid c.tid) committed new ∙ or_left _ (is_among new c.tid) its)

ended_kept : (tid : Tid) (said : Recovery) → IsKept said → IsKept (ended tid said)
ended_kept tid said k = record {
  once = once_within (λ v. not (is_of tid v)) said.prepared k.once;
  listed = all_within has_list (λ c. not (is_untold_of tid c)) said.untold k.listed;
  known = all_within (is_known said.committed) (λ c. not (is_untold_of tid c)) said.untold k.known;
  waiting = waits_ended tid said.untold said.prepared k.waiting;
}

-- the changes of a Commit, and its name
applied_by : Tid → Recovery → Recovery
applied_by tid said = record said {
  files = said.files ++ changes_at files_no tid said;
  audit = said.audit ++ changes_at audit_no tid said;
  extra = said.extra ++ changes_at extra_no tid said;
  committed = said.committed ++ (if names_transaction tid then tid ∷ [] else []);
}

one_kept : (said : Recovery) (rec : Record) → IsKept said → IsKept (found_record said rec)
unfolding is_known applied_by
one_kept said (records.Prepare tid server covers changes) k = record {
  once = once_more (filter (λ v. not (is_vote_of tid server v)) said.prepared) (record { tid = tid; server = server; covers = covers; changes = changes; committed = false })
      (once_within (λ v. not (is_vote_of tid server v)) said.prepared k.once) (none_left (is_vote_of tid server) said.prepared);
  listed = k.listed;
  known = k.known;
  waiting = list_all-append (is_waiting said.untold) (filter (λ v. not (is_vote_of tid server v)) said.prepared) _
      ∙ and_from _ _ (all_within (is_waiting said.untold) (λ v. not (is_vote_of tid server v)) said.prepared k.waiting) refl;
}
one_kept said (records.Commit tid []) k = ended_kept tid (applied_by tid said) (record {
  once = k.once;
  listed = k.listed;
  known = known_more said.committed (if names_transaction tid then tid ∷ [] else []) said.untold k.known;
  waiting = k.waiting;
})
one_kept said (records.Commit tid (node ∷ nodes)) k = record {
  once = once_marked tid said.prepared k.once;
  listed = list_all-append has_list said.untold _ ∙ and_from _ _ k.listed refl;
  known = list_all-append (is_known (said.committed ++ (if names_transaction tid then tid ∷ [] else []))) said.untold _
      ∙ and_from _ _ (known_more said.committed (if names_transaction tid then tid ∷ [] else []) said.untold k.known) (and_from _ true (mine (names_transaction tid) refl) refl);
  waiting = waits_marked tid (node ∷ nodes) said.untold said.prepared k.waiting;
}
  where
    mine : (b : Bool) → names_transaction tid ≡ b → (not (names_transaction tid) || is_among (said.committed ++ (if names_transaction tid then tid ∷ [] else [])) tid) ≡ true
    mine true is = rw is (list_any-append (same_tid tid) said.committed (tid ∷ []) ∙ or_right (is_among said.committed tid) _ (or_left (same_tid tid tid) false (same_tid-self tid)))
    mine false is = or_left (not (names_transaction tid)) _ (not_from_false _ is)
one_kept said (records.Aborted tid) k = ended_kept tid said k
one_kept said (records.End tid) k = ended_kept tid said k

all_kept : (said : Recovery) (log : List Record) → IsKept said → IsKept (fold found_record said log)
all_kept said [] k = k
all_kept said (rec ∷ log) k = all_kept (found_record said rec) log (one_kept said rec k)

each_kept : (log : List Record) → IsKept (recovery log)
each_kept log = all_kept nothing_said log (record { once = refl; listed = refl; known = refl; waiting = refl })

-- ---- coherent logs

-- a vote without a Commit behind it
doubt_apart : (said : Recovery) (v : Prepared) → is_doubt said v ≡ true → v.committed ≡ false → (list_any (is_untold_of v.tid) said.untold ≡ false) × (is_among said.committed v.tid ≡ false)
doubt_apart said v doubt off =
    let rest = implied (not v.committed) _ (not_from_false v.committed off) (by v.committed off doubt) in
    let none = and_last (names_transaction v.tid) _ rest in
    (not-true _ (and_first _ _ none), not-true _ (and_last _ _ none))
  where
    by : (b : Bool) → v.committed ≡ false → is_doubt said v ≡ true → (not (not v.committed) || (names_transaction v.tid && (not (list_any (is_untold_of v.tid) said.untold) && not (is_among said.committed v.tid)))) ≡ true
    by b is h = sym (ap (λ (c : Bool). not (not c) || (names_transaction v.tid && (not (list_any (is_untold_of v.tid) said.untold) && not (is_among said.committed v.tid)))) (sym is)) ∙ sym (ap (λ (c : Bool). c || (names_transaction v.tid && (not (list_any (is_untold_of v.tid) said.untold) && not (is_among said.committed v.tid)))) is) ∙ h

apart_all : (said : Recovery) (votes : List Prepared) → list_all (is_doubt said) votes ≡ true → list_all (is_of_none said.untold) (filter is_undecided votes) ≡ true
apart_all said [] h = refl
apart_all said (v ∷ votes) h = by v.committed refl (apart_all said votes (and_last (is_doubt said v) _ h))
  where
    by : (b : Bool) → v.committed ≡ b → list_all (is_of_none said.untold) (filter is_undecided votes) ≡ true → list_all (is_of_none said.untold) (filter is_undecided (v ∷ votes)) ≡ true
    by true is more = rw is more
    by false is more = rw is (and_from _ _ (not_from_false _ (doubt_apart said v (and_first (is_doubt said v) _ h) is).0) more)

known_all : (committed : List Tid) (commits : List Untold) → list_all (is_known committed) commits ≡ true → list_all is_numbered commits ≡ true → list_all (is_listed_among committed) commits ≡ true
unfolding is_known
known_all committed [] h named = refl
known_all committed (c ∷ commits) h named =
    and_from _ _ (implied (is_numbered c) _ (and_first (is_numbered c) _ named) (and_first (is_known committed c) _ h)) (known_all committed commits (and_last (is_known committed c) _ h) (and_last (is_numbered c) _ named))

-- whose Commit waits is among those that the Commits name
named_among : (committed : List Tid) (commits : List Untold) (t : Tid) → list_all (is_listed_among committed) commits ≡ true → list_any (is_untold_of t) commits ≡ true → is_among committed t ≡ true
named_among committed [] t h is = absurd (cc is)
named_among committed (c ∷ commits) t h is =
    by (or_cases (is_untold_of t c) (list_any (is_untold_of t) commits) is) (named_among committed commits t (and_last (is_listed_among committed c) _ h))
  where
    by : (is_untold_of t c ≡ true) ⊎ (list_any (is_untold_of t) commits ≡ true) → (list_any (is_untold_of t) commits ≡ true → is_among committed t ≡ true) → is_among committed t ≡ true
    by (inl its) more = ap (is_among committed) (sym (same_tid-true c.tid t its)) ∙ and_first (is_listed_among committed c) _ h
    by (inr rest) more = more rest

flagged_all : (said : Recovery) (votes : List Prepared) → list_all (is_listed_among said.committed) said.untold ≡ true → list_all (is_doubt said) votes ≡ true → list_all (is_waiting said.untold) votes ≡ true
    → list_all (is_flagged said.committed) votes ≡ true
flagged_all said [] known doubts waits = refl
flagged_all said (v ∷ votes) known doubts waits =
    and_from _ _ (by v.committed refl) (flagged_all said votes known (and_last (is_doubt said v) _ doubts) (and_last (is_waiting said.untold v) _ waits))
  where
    by : (b : Bool) → v.committed ≡ b → same_flag v.committed (is_among said.committed v.tid) ≡ true
    by true is = ap (λ (c : Bool). same_flag c (is_among said.committed v.tid)) is ∙ named_among said.committed said.untold v.tid known (implied v.committed _ is (and_first (is_waiting said.untold v) _ waits))
    by false is = ap (λ (c : Bool). same_flag c (is_among said.committed v.tid)) is ∙ not_from_false _ (doubt_apart said v (and_first (is_doubt said v) _ doubts) is).1

pub may_take : EachMayTake
may_take log are =
    let kept = each_kept log in
    let said = recovery log in
    let doubts = and_first (list_all (is_doubt said) said.prepared) (list_all is_numbered said.untold) are in
    let named = and_last (list_all (is_doubt said) said.prepared) (list_all is_numbered said.untold) are in
    let known = known_all said.committed said.untold kept.known named in
    record {
      once = once_within is_undecided said.prepared kept.once;
      apart = apart_all said said.prepared doubts;
      listed = kept.listed;
      numbered = named;
      flagged = flagged_all said said.prepared known doubts kept.waiting;
      known = known;
      waiting = kept.waiting;
    }
