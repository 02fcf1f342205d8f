-- As a transaction is decided to commit, each of its members that keep contents has pending and on record just what it served.
use Rattle.qs_book_laws.proofs.Words.{◌≡◌, ℕ, Bool, true, false, List, [], ◌&&◌, Option, Some, refl, sym, ap, subst, ◌∙◌, length, is_some, slice_get, nat_lt, unwrap_or, list_all, option_map, Member, Tid, Entry, TransactionValue, is_open, is_crossed, is_unanimous, is_empty, agrees, all_served, BookValue, find_transaction, IsLawful, book_after, changes_of, opening, Opened, IsKept, IsCoherent, held_at, changes_served, keeps_contents}
use Rattle.qs_book_laws.proofs.Ballots.{IsEven}
use Rattle.qs_book_laws.proofs.Counts.{count_of, count_in, no_count}
use Rattle.qs_book_laws.proofs.Covered.{agrees_all, marked}
use Rattle.qs_book_laws.proofs.Holding.{left_of, right_of, which}
use Rattle.qs_book_laws.proofs.Keeping.{is_live}
use Rattle.qs_book_laws.proofs.LiveOpenings.{opening_lives}
use Rattle.qs_book_laws.proofs.Living.{Living, ran_living}
use Rattle.qs_book_laws.proofs.Openings.{opening_holds}
use Rattle.qs_book_laws.proofs.Shares.{number}
use Rattle.qs_book_laws.proofs.Ready.{unanimous_plain}
use Rattle.qs_book_laws.proofs.ShutOpenings.{opening_shut}
use Rattle.qs_book_laws.proofs.Tidy.{opening_tidy}

pub kept_at_commit : (opened : List Opened) (before : List Entry) (tid : Tid) (member : Member) (tx : TransactionValue)
    → IsCoherent opened → keeps_contents member.server.0 ≡ true
    → nat_lt member.node.0 (length opened) ≡ true → nat_lt tid.home.0 (length opened) ≡ true
    → IsLawful (opening opened) before
    → find_transaction (book_after (opening opened) before) tid ≡ Some tx → is_open tx.cell ≡ true → is_unanimous tx ≡ true
    → IsKept (book_after (opening opened) before) tid member (changes_served (opening opened) tid member before)
kept_at_commit opened before tid member tx coherent keeps at_node at_home lawful found opens unanimous =
    let last : BookValue = book_after (opening opened) before in
    let side : (b : Bool) × (member.server.0 ≡ number b) = which member.server.0 keeps in
    let agreed : list_all agrees tx.parts ≡ true = left_of (list_all agrees tx.parts) (is_empty tx.refusals && is_empty tx.crossed) (right_of (is_some tx.asked && all_served tx) _ unanimous) in
    let plain : is_crossed tx member ≡ false = unanimous_plain tx member unanimous in
    let live_tx : is_live (Some tx) member ≡ true = rw (opens, plain) refl in
    let live : is_live (find_transaction last tid) member ≡ true = ap (λ (o : Option TransactionValue). is_live o member) found ∙ live_tx in
    let living : Living tid member last (changes_served (opening opened) tid member before) =
    ran_living tid member keeps before (opening opened) [] (opening_holds opened coherent) (opening_shut opened coherent) (opening_tidy opened coherent) lawful
    (λ first. opening_lives opened tid member keeps at_node at_home first) live in
    let even : (i : ℕ) → IsEven (count_of last tid member i) = λ i.
    subst IsEven (sym (ap (λ (o : Option TransactionValue). unwrap_or (option_map (count_in member i) o) no_count) found)) (agrees_all side.0 member i tx side.1 agreed) in
    let k = living.keeping in
    let held : held_at last tid member ≡ changes_served (opening opened) tid member before = k.pending (λ i below. even i) in
    record {
      pending = held;
      on_record = ap changes_of (marked tid member (slice_get last.nodes member.node.0) k.mark k.at) ∙ (k.on_record (even k.mark.inc) ∙ held);
    }
