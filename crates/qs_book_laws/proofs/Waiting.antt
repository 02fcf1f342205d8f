-- Through every lawful history, what waits towards a node of a transaction is counted over the requests that clients wait for.
use Rattle.qs_book_laws.proofs.Words.{◌≡◌, ℕ, ◌-◌, ◌==◌, Bool, true, false, List, [], ◌∷◌, ◌++◌, Option, Some, None, refl, sym, ap, subst, ◌∙◌, ◌⊎◌, inl, inr, fold, if◌then◌else◌, arith, nat_tests, is_some, slice_get, slice_set, option_map, ClientNo, Member, Outcome, Tid, is_client_no, Cause, Act, Issue, Found, BookValue, find_transaction, changed_at, with_owner, with_waiting, owner_of, decide, answer, hear, waiting_of, inc_at, restart, put_new_votes, up_to, begun_at, abort_begun, vote_found}
use Rattle.qs_book_laws.proofs.Words.{commit_found, learn_found, decide_found, is_among, is_open_here, begun_tid, record_at, Asking, Owner}
use Rattle.qs_base.specs.declared.identifiers.Outcome.TheVariants as outcomes
use Rattle.qs_ops.specs.declared.answer.Cause.TheVariants as causes
use Rattle.qs_book_journal.specs.declared.entry.Act.TheVariants.{Answer}
use Rattle.qs_book_machine.specs.Book.{told, told_owner}
use Rattle.qs_book_laws.proofs.Holding.{same_number}
use Rattle.qs_book_laws.proofs.Maps.{changed_at_alike, changed_at_either, changed_at_here}
use Rattle.qs_book_laws.proofs.Takes.{some_same}
use Rattle.qs_book_laws.proofs.Unanswered.{Waits, own_of, without, own_without, own_others, own_more}

-- ---- what entries make of the requests that have no answer

abbrev pub waits_after : List Waits → Act → List Waits
waits_after ws (Issue t issuer member n op) = if is_client_no issuer.server.0 then ws ++ record { client = issuer.server.0 - 32; asking = record { tid = t; node = member.node } } ∷ [] else ws
waits_after ws (Answer client line said) = without client.0 ws
waits_after ws act = ws

-- each client waits for those of its own
abbrev pub AreWaiting : List Owner → List Waits → Type 0
AreWaiting owners ws = (c : ℕ) (o : Owner) → slice_get owners c ≡ Some o → o.waiting ≡ own_of c ws

-- ---- what leaves the clients waiting

abbrev pub waits_of : Owner → List Asking
waits_of owner = owner.waiting

abbrev pub SameWaits : List Owner → List Owner → Type 0
SameWaits old new = (c : ℕ) → option_map waits_of (slice_get new c) ≡ option_map waits_of (slice_get old c)

pub still_waiting : (old new : List Owner) (ws : List Waits) → SameWaits old new → AreWaiting old ws → AreWaiting new ws
still_waiting old new ws same are c o is = of (slice_get old c) refl (sym (same c) ∙ ap (option_map waits_of) is)
  where
    of : (x : Option Owner) → slice_get old c ≡ x → option_map waits_of x ≡ Some o.waiting → o.waiting ≡ own_of c ws
    of None there h = absurd (cc h)
    of (Some x) there h = sym (some_same x.waiting o.waiting h) ∙ are c x there

told_waits : (outcome : Outcome) (cause : Option Cause) (owner : Owner) → (told outcome cause owner).waiting ≡ owner.waiting
told_waits outcomes.Commit cause owner = refl
told_waits outcomes.Abort None owner = refl
told_waits outcomes.Abort (Some cause) owner = refl

pub owner_told : (o : Option ClientNo) (outcome : Outcome) (cause : Option Cause) (owners : List Owner) → SameWaits owners (told_owner o outcome cause owners)
owner_told None outcome cause owners c = refl
owner_told (Some client) outcome cause owners c = changed_at_alike waits_of (told outcome cause) (told_waits outcome cause) owners client.0 c

all_same : {A : Type 0} (f : BookValue → A → BookValue) → ((book : BookValue) (x : A) → SameWaits book.owners (f book x).owners) → (xs : List A) (book : BookValue) → SameWaits book.owners (fold f book xs).owners
all_same f each [] book c = refl
all_same f each (x ∷ xs) book c = all_same f each xs (f book x) c ∙ each book x c

if_same : (b : Bool) (owners : List Owner) (x y : BookValue) → SameWaits owners x.owners → SameWaits owners y.owners → SameWaits owners (if b then x else y).owners
if_same true owners x y p q = p
if_same false owners x y p q = q

learn_same : (here : ℕ) (t : Tid) (server : ℕ) (book : BookValue) → SameWaits book.owners (learn_found here t server book).owners
learn_same here t server book = if_same (is_some (record_at here book t server)) book.owners _ book (λ c. refl) (λ c. refl)

commit_same : (here : ℕ) (book : BookValue) (t : Tid) → SameWaits book.owners (commit_found here book t).owners
commit_same here book t c = last (learn_found here t 6 two) c ∙ (learn_same here t 6 two c ∙ (learn_same here t 1 one c ∙ learn_same here t 0 book c))
  where
    one : BookValue
    one = learn_found here t 0 book

    two : BookValue
    two = learn_found here t 1 one

    last : (b : BookValue) → SameWaits b.owners (decide_found here t b).owners
    last b = if_same (is_open_here here t (find_transaction b t)) b.owners (decide t outcomes.Commit None b) b (owner_told (owner_of (find_transaction b t)) outcomes.Commit None b.owners) (λ k. refl)

vote_same : (here inc : ℕ) (done : List Tid) (book : BookValue) (f : Found) → SameWaits book.owners (vote_found here inc done book f).owners
vote_same here inc done book f = if_same (is_among done f.tid) book.owners book _ (λ c. refl) (λ c. refl)

abort_same : (here inc : ℕ) (book : BookValue) (seq : ℕ) → SameWaits book.owners (abort_begun here inc book seq).owners
abort_same here inc book seq =
    if_same (is_open_here here (begun_tid here inc seq) (find_transaction book (begun_tid here inc seq))) book.owners (decide (begun_tid here inc seq) outcomes.Abort (Some (causes.Home inc)) book) book
    (owner_told (owner_of (find_transaction book (begun_tid here inc seq))) outcomes.Abort (Some (causes.Home inc)) book.owners) (λ c. refl)

pub restart_same : (here inc : ℕ) (pend : List Found) (done : List Tid) (book : BookValue) → SameWaits book.owners (restart here inc pend done book).owners
restart_same here inc pend done book c =
    all_same (abort_begun here old) (abort_same here old) (up_to (begun_at here mid)) (fold (vote_found here inc done) (fold (commit_found here) mid done) pend) c
    ∙ (all_same (vote_found here inc done) (vote_same here inc done) pend (fold (commit_found here) mid done) c ∙ all_same (commit_found here) (commit_same here) done mid c)
  where
    mid : BookValue
    mid = put_new_votes here pend book

    old : ℕ
    old = inc_at mid (record { 0 = here })

hear_same : (asks : List Asking) (book : BookValue) → SameWaits book.owners (fold hear book asks).owners
hear_same asks book = all_same hear (λ b ask c. refl) asks book

-- ---- each act

-- an issue and an answer
pub asked_waits : (book : BookValue) (t : Tid) (issuer member : Member) (mid : BookValue) → mid.owners ≡ book.owners → (ws : List Waits) → AreWaiting book.owners ws
    → AreWaiting (with_waiting t issuer member mid).owners (if is_client_no issuer.server.0 then ws ++ record { client = issuer.server.0 - 32; asking = record { tid = t; node = member.node } } ∷ [] else ws)
asked_waits book t issuer member mid same ws are = by (is_client_no issuer.server.0)
  where
    w : Waits
    w = record { client = issuer.server.0 - 32; asking = record { tid = t; node = member.node } }

    f : Owner → Owner
    f owner = record owner { waiting = owner.waiting ++ w.asking ∷ [] }

    there : AreWaiting mid.owners ws
    there = subst (λ (os : List Owner). AreWaiting os ws) (sym same) are

    none_more : (c : ℕ) → (w.client == c) ≡ false → own_of c (ws ++ w ∷ []) ≡ own_of c ws
    none_more c far = own_more c ws w ∙ (ap (λ (b : Bool). own_of c ws ++ (if b then w.asking ∷ [] else [])) far ∙ plain (own_of c ws))
      where
        plain : (xs : List Asking) → xs ++ [] ≡ xs
        plain [] = refl
        plain (x ∷ xs) = ap (λ (ys : List Asking). x ∷ ys) (plain xs)

    one_more : (c : ℕ) → (w.client == c) ≡ true → own_of c (ws ++ w ∷ []) ≡ own_of c ws ++ w.asking ∷ []
    one_more c near = own_more c ws w ∙ ap (λ (b : Bool). own_of c ws ++ (if b then w.asking ∷ [] else [])) near

    equal : (a b : ℕ) → a ≡ b → (b == a) ≡ true
    equal a b e = grind (arith, nat_tests)

    changed : AreWaiting (changed_at w.client f mid.owners) (ws ++ w ∷ [])
    changed c o is = at (slice_get mid.owners w.client) refl
      where
        far : (w.client == c) ≡ false → slice_get mid.owners c ≡ Some o → o.waiting ≡ own_of c (ws ++ w ∷ [])
        far apart h = there c o h ∙ sym (none_more c apart)

        here : (owner : Owner) → slice_get mid.owners w.client ≡ Some owner → c ≡ w.client → Some (f owner) ≡ Some o → o.waiting ≡ own_of c (ws ++ w ∷ [])
        here owner h e g =
            ap waits_of (sym (some_same (f owner) o g))
            ∙ (ap (λ (xs : List Asking). xs ++ w.asking ∷ []) (there c owner (ap (slice_get mid.owners) e ∙ h)) ∙ sym (one_more c (equal c w.client e)))

        unlike : (owner : Owner) → slice_get mid.owners w.client ≡ Some owner → (b : Bool) → (w.client == c) ≡ b → slice_get mid.owners c ≡ Some o → slice_get (changed_at w.client f mid.owners) c ≡ slice_get mid.owners c → o.waiting ≡ own_of c (ws ++ w ∷ [])
        unlike owner h false apart k same = far apart k
        unlike owner h true near k same =
            let e : w.client ≡ c = same_number w.client c near in
            here owner h (sym e) (sym (changed_at_here f mid.owners w.client owner h) ∙ (ap (slice_get (changed_at w.client f mid.owners)) e ∙ is))

        at : (x : Option Owner) → slice_get mid.owners w.client ≡ x → o.waiting ≡ own_of c (ws ++ w ∷ [])
        at None h = none (w.client == c) refl
          where
            same_list : changed_at w.client f mid.owners ≡ mid.owners
            same_list = ap (λ (x : Option Owner). elim x as (λ y. List Owner) [ None ↦ mid.owners | Some y ↦ slice_set mid.owners w.client (f y) ]) h

            as_before : slice_get mid.owners c ≡ Some o
            as_before = ap (λ (os : List Owner). slice_get os c) (sym same_list) ∙ is

            none : (b : Bool) → (w.client == c) ≡ b → o.waiting ≡ own_of c (ws ++ w ∷ [])
            none false apart = far apart as_before
            none true near = absurd (cc (sym (ap (slice_get mid.owners) (same_number w.client c near) ∙ as_before) ∙ h))
        at (Some owner) h = by_either (changed_at_either f mid.owners w.client c owner h)
          where
            by_either : ((c ≡ w.client) × (slice_get mid.owners c ≡ Some owner) × (slice_get (changed_at w.client f mid.owners) c ≡ Some (f owner))) ⊎ (slice_get (changed_at w.client f mid.owners) c ≡ slice_get mid.owners c) → o.waiting ≡ own_of c (ws ++ w ∷ [])
            by_either (inl one) = here owner h one.0 (sym one.2 ∙ is)
            by_either (inr same) = unlike owner h (w.client == c) refl (sym same ∙ is) same

    by : (b : Bool) → AreWaiting (if b then with_owner w.client f mid else mid).owners (if b then ws ++ w ∷ [] else ws)
    by true = changed
    by false = there

pub answered_waits : (book : BookValue) (client : ClientNo) (line : ℕ) (ws : List Waits) → AreWaiting book.owners ws → AreWaiting (answer client line book).owners (without client.0 ws)
answered_waits book client line ws are =
    still_waiting first.owners (answer client line book).owners (without client.0 ws) (hear_same (waiting_of (slice_get book.owners client.0)) first) emptied
  where
    f : Owner → Owner
    f owner = record owner { line = line; waiting = [] }

    first : BookValue
    first = with_owner client.0 f book

    emptied : AreWaiting first.owners (without client.0 ws)
    emptied c o is = at (slice_get book.owners client.0) refl
      where
        far : (client.0 == c) ≡ false → slice_get book.owners c ≡ Some o → o.waiting ≡ own_of c (without client.0 ws)
        far apart h = are c o h ∙ sym (own_others c client.0 ws apart)

        here : (owner : Owner) → c ≡ client.0 → Some (f owner) ≡ Some o → o.waiting ≡ own_of c (without client.0 ws)
        here owner e g = ap waits_of (sym (some_same (f owner) o g)) ∙ sym (ap (λ (n : ℕ). own_of n (without client.0 ws)) e ∙ own_without client.0 ws)

        at : (x : Option Owner) → slice_get book.owners client.0 ≡ x → o.waiting ≡ own_of c (without client.0 ws)
        at None h = none (client.0 == c) refl
          where
            same_list : changed_at client.0 f book.owners ≡ book.owners
            same_list = ap (λ (x : Option Owner). elim x as (λ y. List Owner) [ None ↦ book.owners | Some y ↦ slice_set book.owners client.0 (f y) ]) h

            as_before : slice_get book.owners c ≡ Some o
            as_before = ap (λ (os : List Owner). slice_get os c) (sym same_list) ∙ is

            none : (b : Bool) → (client.0 == c) ≡ b → o.waiting ≡ own_of c (without client.0 ws)
            none false apart = far apart as_before
            none true near = absurd (cc (sym (ap (slice_get book.owners) (same_number client.0 c near) ∙ as_before) ∙ h))
        at (Some owner) h = by_either (changed_at_either f book.owners client.0 c owner h)
          where
            by_either : ((c ≡ client.0) × (slice_get book.owners c ≡ Some owner) × (slice_get (changed_at client.0 f book.owners) c ≡ Some (f owner))) ⊎ (slice_get (changed_at client.0 f book.owners) c ≡ slice_get book.owners c) → o.waiting ≡ own_of c (without client.0 ws)
            by_either (inl one) = here owner one.0 (sym one.2 ∙ is)
            by_either (inr same) = unlike (client.0 == c) refl
              where
                unlike : (b : Bool) → (client.0 == c) ≡ b → o.waiting ≡ own_of c (without client.0 ws)
                unlike false apart = far apart (sym same ∙ is)
                unlike true near =
                    let e : client.0 ≡ c = same_number client.0 c near in
                    here owner (sym e) (sym (changed_at_here f book.owners client.0 owner h) ∙ (ap (slice_get (changed_at client.0 f book.owners)) e ∙ is))
