-- What a log says of transactions that are not ended names transactions, and no vote is in doubt beside a Commit that waits, where a sound node stands over it.
use Rattle.qs_world_refine.proofs.Words.{◌≡◌, inl, inr, ℕ, ◌&&◌, ◌||◌, not, Bool, true, false, List, [], ◌∷◌, ◌++◌, map, fold, Option, Some, None, is_some, refl, sym, ap, subst, ◌∙◌, arith, if◌then◌else◌, nat_tests, list_all, list_any, filter, NodeNo, Tid, Record, Prepared, Recovery, found_record, names_transaction, is_untold_of, is_vote_of, ended, mark_committed, with_list, NodeValue, is_abort, is_undecided, InLog, Participant, are_unended, is_untold, fits_record, is_list_at, are_left_open}
use Rattle.qs_world_refine.proofs.Words.{no_flags, flags_at, AreSaid, is_sound, has_doubt, where_so, is_sound_said, implied, or_left, or_right}
use Rattle.qs_record.specs.declared.record.Record.TheVariants as records
use Rattle.qs_restart.specs.Recovery.{is_of}
use Rattle.qs_tm.specs.Manager as tm
use Rattle.qs_world.specs.Openings.{is_doubt}
use Rattle.qs_world_refine.specs.SaidLaws.{is_open_vote}
use Rattle.qs_world_refine.proofs.Entries.{all_mapped}
use Rattle.qs_world_refine.proofs.SaysSeen.{said_seen}
use Rattle.qs_world_refine.proofs.SoundBegin.{all_implied, all_last}
use Rattle.qs_world_refine.proofs.SoundHolds.{known_sound}
use Rattle.qs_world_refine.proofs.SoundLogs.{all_filtered}
use Rattle.qs_world_refine.proofs.SoundParts.{and_both, both_and}
use Rattle.qs_world_refine.proofs.SoundViews.{PartSound}

abbrev pub is_named_vote : Prepared → Bool
is_named_vote vote = vote.committed || names_transaction vote.tid

pub record AreNamed (said : Recovery) : Type 0 where
  pub votes : list_all is_named_vote said.prepared ≡ true
  pub commits : list_all is_untold said.untold ≡ true

-- as where a world begins
pub opening_left : (said : Recovery) → are_unended said ≡ true → are_left_open said ≡ true
opening_left said is =
    let both : (list_all (is_doubt said) said.prepared ≡ true) × (list_all is_untold said.untold ≡ true) = and_both (list_all (is_doubt said) said.prepared) _ is in
    both_and (list_all (is_open_vote said) said.prepared) (list_all is_untold said.untold)
    (all_implied (is_doubt said) (is_open_vote said) (λ vote. open_is vote.committed (names_transaction vote.tid) (not (list_any (is_untold_of vote.tid) said.untold)) _) said.prepared both.0) both.1
  where
    open_is : (a b c d : Bool) → (a || (b && (c && d))) ≡ true → (a || (b && c)) ≡ true
    open_is true b c d its = refl
    open_is false true true d its = refl
    open_is false true false d its = absurd (cc (its))
    open_is false false c d its = absurd (cc (its))

-- so it is of one that is not ended
pub unended_named : (said : Recovery) → are_left_open said ≡ true → AreNamed said
unended_named said is =
    let both : (list_all (is_open_vote said) said.prepared ≡ true) × (list_all is_untold said.untold ≡ true) = and_both (list_all (is_open_vote said) said.prepared) _ is in
    record { votes = all_implied (is_open_vote said) is_named_vote (λ vote. named vote.committed (names_transaction vote.tid) _) said.prepared both.0; commits = both.1 }
  where
    named : (a b c : Bool) → (a || (b && c)) ≡ true → (a || b) ≡ true
    named true b c its = refl
    named false true c its = refl
    named false false c its = absurd (cc (its))

-- and stays, where each record names a transaction
module _ (past : Tid → Bool) (me : NodeNo) (names : (tid : Tid) → past tid ≡ true → names_transaction tid ≡ true) where
  ended_named : (tid : Tid) (said : Recovery) → AreNamed said → AreNamed (ended tid said)
  ended_named tid said is = record { votes = all_filtered is_named_vote (λ vote. not (is_of tid vote)) said.prepared is.votes; commits = all_filtered is_untold (λ commit. not (is_untold_of tid commit)) said.untold is.commits }

  marked_named : (tid : Tid) (vote : Prepared) → is_named_vote vote ≡ true → is_named_vote (mark_committed tid vote) ≡ true
  marked_named tid vote is = by (is_of tid vote)
    where
      by : (b : Bool) → is_named_vote (if b then record vote { committed = true } else vote) ≡ true
      by true = refl
      by false = is

  list_named : (tid : Tid) (told : List NodeNo) (said : Recovery) → past tid ≡ true → AreNamed said → AreNamed (with_list tid told said)
  list_named tid [] said its is = ended_named tid said is
  list_named tid (first ∷ others) said its is = record {
    votes = all_mapped is_named_vote (mark_committed tid) (marked_named tid) said.prepared is.votes;
    commits = all_last is_untold said.untold (record { tid = tid; told = first ∷ others }) is.commits (names tid its);
  }

  one_named : (rec : Record) (said : Recovery) → fits_record past me rec ≡ true → AreNamed said → AreNamed (found_record said rec)
  one_named (records.Prepare tid server covers changes) said its is = record {
    votes = all_last is_named_vote (filter (λ other. not (is_vote_of tid server other)) said.prepared) (record { tid = tid; server = server; covers = covers; changes = changes; committed = false })
        (all_filtered is_named_vote (λ other. not (is_vote_of tid server other)) said.prepared is.votes) (names tid (and_both (past tid) _ its).0);
    commits = is.commits;
  }
  one_named (records.Commit tid told) said its is = list_named tid told _ (and_both (past tid) (is_list_at me tid told) its).0 (record { votes = is.votes; commits = is.commits })
  one_named (records.Aborted tid) said its is = ended_named tid said is
  one_named (records.End tid) said its is = ended_named tid said is

  pub fold_named : (log : List Record) (said : Recovery) → list_all (fits_record past me) log ≡ true → AreNamed said → AreNamed (fold found_record said log)
  fold_named [] said all is = is
  fold_named (rec ∷ log) said all is =
      let both : (fits_record past me rec ≡ true) × (list_all (fits_record past me) log ≡ true) = and_both (fits_record past me rec) (list_all (fits_record past me) log) all in
      fold_named log (found_record said rec) both.1 (one_named rec said both.0 is)

-- what is known of a transaction's records
abbrev flags_in : Option Participant → InLog
flags_in o = elim o [ None ↦ no_flags | Some part ↦ part.log ]

-- ---- each of a list, told from its place in it

all_of : {X : Type 0} (q : X → Bool) (xs : List X) → ((x : X) → ((f : X → Bool) → f x ≡ true → list_any f xs ≡ true) → q x ≡ true) → (ys : List X) → ((f : X → Bool) → list_any f ys ≡ true → list_any f xs ≡ true) → list_all q ys ≡ true
all_of q xs each [] within = refl
all_of {X} q xs each (y ∷ ys) within = both_and (q y) (list_all q ys) (each y (λ f is. within f (or_left (f y) (list_any f ys) is))) (all_of q xs each ys (λ f is. within f (or_right (f y) (list_any f ys) is)))

pub unended_said : (node : NodeValue) (said : Recovery) → is_sound node ≡ true → is_sound_said node said ≡ true → AreNamed said → are_left_open said ≡ true
unended_said node said sound over named = both_and (list_all (is_open_vote said) said.prepared) (list_all is_untold said.untold) (all_of (is_open_vote said) said.prepared doubt said.prepared (λ f is. is)) named.commits
  where
    is_said : AreSaid node said
    is_said = said_seen node said sound over

    -- a part with flags that can't be both
    never : (tid : Tid) → (flags_at tid node).prepared ≡ true → (flags_at tid node).listed ≡ true → false ≡ true
    never tid prepared listed = by (tm.part_of tid node.manager) refl
      where
        off : (p l h u s a : Bool) → p ≡ true → l ≡ true → where_so l (h && (s && not a)) ≡ true → where_so (p && h) (u || a) ≡ true → (u ≡ not s) → false ≡ true
        off true true true u true false pp ll first second same = rw same at second
        off true true true u true true pp ll first second same = first
        off true true true u false a pp ll first second same = first
        off true true false u s a pp ll first second same = first
        off true false h u s a pp ll first second same = ll
        off false l h u s a pp ll first second same = pp

        open_is : (o : Option Rattle.qs_base.specs.declared.identifiers.Outcome.Outcome) → Rattle.std.proofs.Common.is_none o ≡ not (is_some o)
        open_is None = refl
        open_is (Some x) = refl

        by : (o : Option Participant) → tm.part_of tid node.manager ≡ o → false ≡ true
        by None none = let it : (flags_at tid node).prepared ≡ false = ap (λ (o : Option Participant). (flags_in o).prepared) none in sym it ∙ prepared
        by (Some part) known =
            let s : PartSound node tid part = known_sound tid node part known sound in
            let p : part.log.prepared ≡ true = sym (ap (λ (o : Option Participant). (flags_in o).prepared) known) ∙ prepared in
            let l : part.log.listed ≡ true = sym (ap (λ (o : Option Participant). (flags_in o).listed) known) ∙ listed in
            let a : (where_so (part.log.prepared || part.log.listed) part.log.unended ≡ true) × _ = and_both (where_so (part.log.prepared || part.log.listed) part.log.unended) _ s.logged in
            let b : (where_so part.log.prepared part.involved ≡ true) × _ = and_both (where_so part.log.prepared part.involved) _ a.1 in
            let d : (where_so part.log.listed (part.engage.home && (is_some part.outcome && not (is_abort part.outcome))) ≡ true) × (where_so (part.log.prepared && part.engage.home) (is_undecided part || is_abort part.outcome) ≡ true) = and_both (where_so part.log.listed (part.engage.home && (is_some part.outcome && not (is_abort part.outcome)))) _ b.1 in
            off part.log.prepared part.log.listed part.engage.home (is_undecided part) (is_some part.outcome) (is_abort part.outcome) p l d.0 d.1 (open_is part.outcome)

    doubt : (vote : Prepared) → ((f : Prepared → Bool) → f vote ≡ true → list_any f said.prepared ≡ true) → is_open_vote said vote ≡ true
    doubt vote within = by vote.committed refl (names_transaction vote.tid) refl (list_any (is_untold_of vote.tid) said.untold) refl
      where
        name : vote.committed ≡ false → names_transaction vote.tid ≡ false → false ≡ true
        name off none = let it : is_named_vote vote ≡ true = all_at vote within in sym (rw (off, none) refl) ∙ it
          where
            all_at : (vote : Prepared) → ((f : Prepared → Bool) → f vote ≡ true → list_any f said.prepared ≡ true) → is_named_vote vote ≡ true
            all_at vote within = test (is_named_vote vote) refl
              where
                clash : (xs : List Prepared) → list_all is_named_vote xs ≡ true → list_any (λ (v : Prepared). not (is_named_vote v)) xs ≡ true → false ≡ true
                clash [] all any = any
                clash (x ∷ xs) all any =
                    let both : (is_named_vote x ≡ true) × (list_all is_named_vote xs ≡ true) = and_both (is_named_vote x) (list_all is_named_vote xs) all in
                    clash xs both.1 (implied (is_named_vote x) (list_any (λ (v : Prepared). not (is_named_vote v)) xs) both.0 any)

                test : (b : Bool) → is_named_vote vote ≡ b → b ≡ true
                test true is = refl
                test false is = clash said.prepared named.votes (within (λ (v : Prepared). not (is_named_vote v)) (rw is refl))

        itself : is_of vote.tid vote ≡ true
        itself = grind (arith, nat_tests)

        by : (a : Bool) → vote.committed ≡ a → (b : Bool) → names_transaction vote.tid ≡ b → (d : Bool) → list_any (is_untold_of vote.tid) said.untold ≡ d → (a || (b && not d)) ≡ true
        by true is b names d untold = refl
        by false is true names false untold = refl
        by false is false names d untold = absurd (let it : false ≡ true = name is names in cc (it))
        by false is true names true untold = absurd (
            let has : has_doubt vote.tid said ≡ true = within (λ (v : Prepared). is_of vote.tid v && not v.committed) (both_and (is_of vote.tid vote) (not vote.committed) itself (rw is refl)) in
            let it : false ≡ true = never vote.tid ((is_said vote.tid).prepared ∙ has) ((is_said vote.tid).listed ∙ untold) in cc (it))
