-- What is not committed is not committed after an entry that leaves its cell.
use Rattle.qs_world_lawful.proofs.Words.{◌≡◌, ℕ, List, [], ◌∷◌, ◌++◌, Some, false, sym, ap, subst, ◌∙◌, lookup, is_at, tid_cmp, Tid, Act, Entry, BookValue, find_transaction, book_after, TransactionValue, changed_value, is_commit, Work, entries_of, book_at, IsUncommitted, some_same}
use Rattle.qs_world_lawful.proofs.Growing.{book_now, book_with}
use Rattle.qs_world_lawful.proofs.Steps.{tx_changed}

pub uncommitted_on : (stamp : ℕ) (before : BookValue) (tid : Tid) (work new : Work) (act : Act) (f : TransactionValue → TransactionValue) (tx : TransactionValue) → ((x : TransactionValue) → is_commit (f x).cell ≡ is_commit x.cell)
    → (book_with stamp before work act).transactions ≡ changed_value (is_at (tid_cmp tid)) f (book_at stamp before work).transactions → find_transaction (book_at stamp before work) tid ≡ Some tx
    → new.node.setting ≡ work.node.setting → new.out.entries ≡ work.out.entries ++ act ∷ [] → IsUncommitted stamp before work tid → IsUncommitted stamp before new tid
uncommitted_on stamp before tid work new act f tx cell txs found setting entries still other there = subst (λ (x : TransactionValue). is_commit x.cell ≡ false) (some_same (sym now ∙ there)) (cell tx ∙ still tx found)
  where
    now : find_transaction (book_at stamp before new) tid ≡ Some (f tx)
    now = ap (λ (b : BookValue). find_transaction b tid) (book_now stamp before work new act setting entries) ∙ (ap (lookup (is_at (tid_cmp tid))) txs ∙ tx_changed tid f (book_at stamp before work).transactions tx found)

-- the same entries leave the same machine
pub uncommitted_still : (stamp : ℕ) (before : BookValue) (tid : Tid) (work new : Work) → new.node.setting ≡ work.node.setting → new.out.entries ≡ work.out.entries → IsUncommitted stamp before work tid → IsUncommitted stamp before new tid
uncommitted_still stamp before tid work new setting entries still tx there = still tx (sym (ap (λ (b : BookValue). find_transaction b tid) same) ∙ there)
  where
    same : book_at stamp before new ≡ book_at stamp before work
    same = ap (λ (es : List Entry). book_after before es) (ap (λ (n : ℕ). entries_of n stamp new.out.entries) (ap (λ s. s.node.0) setting) ∙ ap (entries_of work.node.setting.node.0 stamp) entries)
