-- The machine has the scripts of all clients after a restart: owners have their lines on, no label is new, and the node has nothing in hand.
use Rattle.qs_world_lawful.proofs.Words.{◌≡◌, ℕ, ◌==◌, Bool, true, false, List, [], ◌∷◌, fold, Some, None, is_some, refl, sym, subst, ◌∙◌, if◌then◌else◌, slice_get, lookup, is_at, Tid, Found, BookValue, find_transaction, inc_at, with_transaction, book_after, abort_begun, begun_at, begun_tid, commit_found, count_of, is_among, is_open_here, learn_found, member_at, put_new_votes, record_at, restart, up_to, vote_found, found_at, with_learnt, Owner, recovery, recovered_of, client_cmp, Rise, moved}
use Rattle.qs_world_lawful.proofs.Words.{risen_host, found_votes, rise_entry}
use Rattle.qs_base.specs.declared.identifiers.Outcome.TheVariants as outcomes
use Rattle.qs_book_machine.specs.Book.{decide}
use Rattle.qs_ops.specs.Servers.{audit_no, extra_no, files_no}
use Rattle.qs_ops.specs.declared.answer.Cause.TheVariants as causes
use Rattle.qs_world_lawful.specs.Scripts.{IsInHand}
use Rattle.qs_world_lawful.specs.WayLaws.{EachRiseKeepsScripts}
use Rattle.qs_world_lawful.proofs.OthersRise.{lines}
use Rattle.qs_world_lawful.proofs.RisesWell.{at, log, r, same_book, setting}
use Rattle.qs_world_lawful.proofs.ScriptsLike.{HoldsHand, KeepsLines, scripts_like}

-- ---- labels

abbrev Labels : Type 0
Labels = List (List ℕ × Tid)

fold_labels : {A : Type 0} (f : BookValue → A → BookValue) → ((b : BookValue) (x : A) → (f b x).labels ≡ b.labels) → (xs : List A) (b : BookValue) → (fold f b xs).labels ≡ b.labels
fold_labels f keeps [] b = refl
fold_labels f keeps (x ∷ xs) b = fold_labels f keeps xs (f b x) ∙ keeps b x

either : (x : Bool) (a b : BookValue) → a.labels ≡ b.labels → (if x then a else b).labels ≡ b.labels
either true a b same = same
either false a b same = refl

module _ (here inc : ℕ) (pend : List Found) (done : List Tid) where
  learn_labels : (tid : Tid) (server : ℕ) (b : BookValue) → (learn_found here tid server b).labels ≡ b.labels
  learn_labels tid server b = either (is_some (record_at here b tid server)) (with_transaction tid (with_learnt (member_at here server)) b) b refl

  commit_labels : (b : BookValue) (tid : Tid) → (commit_found here b tid).labels ≡ b.labels
  commit_labels b tid = either (is_open_here here tid (find_transaction three tid)) (decide tid outcomes.Commit None three) three refl ∙ (learn_labels tid extra_no two ∙ (learn_labels tid audit_no one ∙ learn_labels tid files_no b))
    where
      one : BookValue
      one = learn_found here tid files_no b

      two : BookValue
      two = learn_found here tid audit_no one

      three : BookValue
      three = learn_found here tid extra_no two

  vote_labels : (b : BookValue) (found : Found) → (vote_found here inc done b found).labels ≡ b.labels
  vote_labels b found = by (is_among done found.tid)
    where
      by : (x : Bool) → (if x then b else with_transaction found.tid (found_at (member_at here found.server.0) inc found.covers (count_of (record_at here b found.tid found.server.0))) b).labels ≡ b.labels
      by true = refl
      by false = refl

  abort_labels : (was : ℕ) (b : BookValue) (seq : ℕ) → (abort_begun here was b seq).labels ≡ b.labels
  abort_labels was b seq = either (is_open_here here (begun_tid here was seq) (find_transaction b (begun_tid here was seq))) (decide (begun_tid here was seq) outcomes.Abort (Some (causes.Home was)) b) b refl

  restart_labels : (book : BookValue) → (restart here inc pend done book).labels ≡ book.labels
  restart_labels book =
      fold_labels (abort_begun here (inc_at read (record { 0 = here }))) (abort_labels (inc_at read (record { 0 = here }))) (up_to (begun_at here read)) (fold (vote_found here inc done) (fold (commit_found here) read done) pend)
      ∙ (fold_labels (vote_found here inc done) vote_labels pend (fold (commit_found here) read done)
      ∙ fold_labels (commit_found here) commit_labels done read)
    where
      read : BookValue
      read = put_new_votes here pend book

-- ---- the whole

pub rise_scripts : EachRiseKeepsScripts
rise_scripts o book world n stamp inc lasts held may h =
    scripts_like o book now world (moved (Rise n stamp inc) world) (restart_labels n inc (found_votes (recovery (world.hosts n).log)) (recovery (world.hosts n).log).committed book) lines_on (λ k. refl) (λ k. refl) hand h
  where
    now : BookValue
    now = book_after book (rise_entry world n stamp inc ∷ [])

    lines_on : KeepsLines book (book_after book (rise_entry world n stamp inc ∷ []))
    lines_on k owner is = subst (λ (b : BookValue). (later : Owner) × (slice_get b.owners k ≡ Some later) × (later.line ≡ owner.line)) (sym (same_book book world n stamp inc lasts held may))
        ((lines book (setting book world n stamp inc lasts held may).node stamp inc (log book world n stamp inc lasts held may) (at book world n stamp inc lasts held may).state (r book world n stamp inc lasts held may) k).on owner is)

    hand : (k : ℕ) → HoldsHand world k → HoldsHand (moved (Rise n stamp inc) world) k
    hand k before j within up command is = by (j == n) refl up is
      where
        by : (x : Bool) → (j == n) ≡ x → (if x then true else world.channels.up j) ≡ true → lookup (is_at (client_cmp (record { 0 = k }))) (if x then risen_host stamp inc (recovered_of (world.hosts n).log) (world.hosts n) else world.hosts j).node.commands ≡ Some command
            → ((world.clients k).at ≡ j) × IsInHand (world.clients k) (Some command)
        by true near e there = absurd (cc there)
        by false far e there = before j within e command there
