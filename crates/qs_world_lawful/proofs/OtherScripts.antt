-- The entries of a step leave the script of a client that none of them answers, where none begins under a label of it.
use Rattle.qs_world_lawful.proofs.Words.{◌≡◌, ◌-◌, ℕ, Bool, true, false, List, [], ◌∷◌, ◌++◌, fold, Option, Some, None, is_none, refl, sym, ap, subst, ◌∙◌, if◌then◌else◌, slice_get, lookup, is_at, bytes_cmp, Member, Tid, Act, Entry, ScriptLine, lookup_put_apart, BookValue, begin, crosses, find_transaction, give_back_from, hear, inc_at, loan_to, waiting_of, with_crossing, with_owner, with_transaction, with_waiting, is_client_no, borrower_at, link_to, effect, effect_act, issued, Asking, Owner}
use Rattle.qs_world_lawful.proofs.Words.{RequestNo, are_rising, labels_begun, IsOfStep, Every, AreBehind, IsFresh}
use Rattle.std.proofs.lemmas.Map.Lookups.{exact_bytes}
use Rattle.qs_book_journal.specs.declared.entry.Act.TheVariants as acts
use Rattle.qs_world_lawful.specs.WayLaws.{BeginsNone, EachStepKeepsOtherScripts, HoldsScript, IsOther, IsSilentTo, LeavesScript}
use Rattle.qs_world_lawful.proofs.AsideActs.{IsAnsweredBy, owners_keep}
use Rattle.qs_world_lawful.proofs.FoundMembers.{every_two}

-- ---- labels

heard_labels : (asks : List Asking) (book : BookValue) → (fold hear book asks).labels ≡ book.labels
heard_labels [] book = refl
heard_labels (ask ∷ asks) book = heard_labels asks (hear book ask)

crossing_labels : (b : Bool) (tid : Tid) (member : Member) (book : BookValue) → (with_crossing b tid member book).labels ≡ book.labels
crossing_labels true tid member book = refl
crossing_labels false tid member book = refl

waiting_labels : (tid : Tid) (issuer member : Member) (book : BookValue) → (with_waiting tid issuer member book).labels ≡ book.labels
waiting_labels tid issuer member book = by (is_client_no issuer.server.0)
  where
    by : (b : Bool) → (if b then with_owner (issuer.server.0 - 32) (λ owner. record owner { waiting = owner.waiting ++ record { tid = tid; node = member.node } ∷ [] }) book else book).labels ≡ book.labels
    by true = refl
    by false = refl

-- what a step begins has a label of its own, and nothing else makes one
pub fresh_on : (stamp here : ℕ) (act : Act) → IsOfStep act → (labels : List (List ℕ)) → BeginsNone labels act → (book : BookValue) → Every (IsFresh book) labels → Every (IsFresh (effect_act stamp here act book)) labels
fresh_on stamp here act of_step labels none book all = by act of_step none
  where
    same : (now : BookValue) → now.labels ≡ book.labels → Every (IsFresh now) labels
    same now e = subst (λ ls. Every (λ (label : List ℕ). is_none (lookup (is_at (bytes_cmp label)) ls) ≡ true) labels) (sym e) all

    by : (act : Act) → IsOfStep act → BeginsNone labels act → Every (IsFresh (effect_act stamp here act book)) labels
    by (acts.Restart inc pend done) so none = absurd so
    by (acts.Begin tid label client) so none = every_two (IsOther label) (IsFresh book) (IsFresh (begin here tid label client book))
        (λ one other was. ap is_none (lookup_put_apart bytes_cmp label tid (exact_bytes label) (is_at (bytes_cmp one)) other book.labels) ∙ was) labels none all
    by (acts.Issue tid issuer member number op) so none = same (effect_act stamp here (acts.Issue tid issuer member number op) book)
        (crossing_labels (crosses (find_transaction book tid) key member) tid member _ ∙ waiting_labels tid issuer member (with_transaction tid (issued key (record { issuer = issuer; member = member; op = op; inc = inc_at book (record { 0 = here }); served = false }) (inc_at book member.node) book.place) book))
      where
        key : RequestNo
        key = record { link = link_to here member; number = number }
    by (acts.Serve tid member from number reply) so none = same (effect_act stamp here (acts.Serve tid member from number reply) book) refl
    by (acts.Vote tid member ballot covers) so none = same (effect_act stamp here (acts.Vote tid member ballot covers) book) refl
    by (acts.Ask tid) so none = same (effect_act stamp here (acts.Ask tid) book) refl
    by (acts.Counted tid peer up_to) so none = same (effect_act stamp here (acts.Counted tid peer up_to) book) refl
    by (acts.Decide tid outcome cause) so none = same (effect_act stamp here (acts.Decide tid outcome cause) book) refl
    by (acts.Ending tid member) so none = same (effect_act stamp here (acts.Ending tid member) book) refl
    by (acts.Learn tid member outcome) so none = same (effect_act stamp here (acts.Learn tid member outcome) book) refl
    by (acts.Answer client line said) so none = same (effect_act stamp here (acts.Answer client line said) book) (heard_labels (waiting_of (slice_get book.owners client.0)) (with_owner client.0 (λ (owner : Owner). record owner { line = line; waiting = [] }) book))
    by (acts.Loan tid client) so none = same (effect_act stamp here (acts.Loan tid client) book) (loan_labels (borrower_at client here))
      where
        loan_labels : (o : Option Member) → (loan_to (inc_at book (record { 0 = here })) tid o book).labels ≡ book.labels
        loan_labels None = refl
        loan_labels (Some member) = refl
    by (acts.Yield tid client) so none = same (effect_act stamp here (acts.Yield tid client) book) (back_labels (borrower_at client here))
      where
        back_labels : (o : Option Member) → (give_back_from (inc_at book (record { 0 = here })) tid o book).labels ≡ book.labels
        back_labels None = refl
        back_labels (Some member) = refl
    by acts.Tick so none = same (effect_act stamp here acts.Tick book) refl
    by (acts.Crash cause) so none = same (effect_act stamp here (acts.Crash cause) book) refl

-- ---- lines

not_answered : (k : ℕ) (act : Act) → IsSilentTo k act → IsAnsweredBy k act → ⊥
not_answered k (acts.Answer client line said) silent same = silent same
not_answered k (acts.Begin tid label client) silent same = same
not_answered k (acts.Issue tid issuer member number op) silent same = same
not_answered k (acts.Serve tid member from number reply) silent same = same
not_answered k (acts.Vote tid member ballot covers) silent same = same
not_answered k (acts.Ask tid) silent same = same
not_answered k (acts.Counted tid peer up_to) silent same = same
not_answered k (acts.Decide tid outcome cause) silent same = same
not_answered k (acts.Ending tid member) silent same = same
not_answered k (acts.Learn tid member outcome) silent same = same
not_answered k (acts.Loan tid client) silent same = same
not_answered k (acts.Yield tid client) silent same = same
not_answered k acts.Tick silent same = same
not_answered k (acts.Crash cause) silent same = same
not_answered k (acts.Restart inc pend done) silent same = same

one_left : (book : BookValue) (entry : Entry) (k : ℕ) (lines : List ScriptLine) → LeavesScript k lines entry → HoldsScript book k lines → HoldsScript (effect book entry) k lines
one_left book entry k lines leaves h = record { behind = behind h.behind; fresh = fresh_on entry.stamp entry.node.0 entry.act leaves.of_step (labels_begun lines) leaves.begins book h.fresh }
  where
    behind : AreBehind book k lines → AreBehind (effect book entry) k lines
    behind b =
        let p = owners_keep entry.stamp entry.node.0 entry.act leaves.of_step book k b.owner b.there in
        record { owner = p.0; there = p.1; rise = ap (λ (n : ℕ). are_rising n lines) (p.2.1 (not_answered k entry.act leaves.silent)) ∙ b.rise }

pub scripts_left : EachStepKeepsOtherScripts
scripts_left [] book k lines all h = h
scripts_left (entry ∷ more) book k lines all h = scripts_left more (effect book entry) k lines all.1 (one_left book entry k lines all.0 h)
