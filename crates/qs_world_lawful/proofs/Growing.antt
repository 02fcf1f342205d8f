-- The history of a step grows by an entry, or by none.
use Rattle.qs_world_lawful.proofs.Words.{◌≡◌, ℕ, List, [], ◌∷◌, ◌++◌, None, refl, sym, ap, subst, ◌∙◌, Act, Entry, BookValue, IsLawful, book_after, broken, effect, entry_of, entries_of, Work, here, Holds, entries_so_far, HoldsWork, book_at}

map_more : (n stamp : ℕ) (acts : List Act) (act : Act) → entries_of n stamp (acts ++ act ∷ []) ≡ entries_of n stamp acts ++ entry_of n stamp act ∷ []
map_more n stamp [] act = refl
map_more n stamp (a ∷ acts) act = ap (λ (es : List Entry). entry_of n stamp a ∷ es) (map_more n stamp acts act)

lawful_more : (entries : List Entry) (book : BookValue) (entry : Entry) → IsLawful book entries → broken (book_after book entries) entry ≡ None → IsLawful book (entries ++ entry ∷ [])
lawful_more [] book entry h is = (is, tt)
lawful_more (e ∷ entries) book entry h is = (h.0, lawful_more entries (effect book e) entry h.1 is)

after_more : (entries : List Entry) (book : BookValue) (entry : Entry) → book_after book (entries ++ entry ∷ []) ≡ effect (book_after book entries) entry
after_more [] book entry = refl
after_more (e ∷ entries) book entry = after_more entries (effect book e) entry

-- the machine after one more entry of that work
abbrev pub book_with : ℕ → BookValue → Work → Act → BookValue
book_with stamp before work act = effect (book_at stamp before work) (entry_of (here work).0 stamp act)

-- one more entry, which is lawful, and after which the machine holds what the node has then
pub entered : (stamp : ℕ) (before : BookValue) (work new : Work) (act : Act) → HoldsWork stamp before work
    → new.node.setting ≡ work.node.setting → new.out.entries ≡ work.out.entries ++ act ∷ []
    → broken (book_at stamp before work) (entry_of (here work).0 stamp act) ≡ None
    → Holds stamp (book_with stamp before work act) new.node
    → HoldsWork stamp before new
entered stamp before work new act h same grows is holds =
    let at : (here new).0 ≡ (here work).0 = ap (λ s. s.node.0) same in
    let entries : entries_so_far stamp new ≡ entries_so_far stamp work ++ entry_of (here work).0 stamp act ∷ [] =
    ap (λ (n : ℕ). entries_of n stamp new.out.entries) at ∙ (ap (entries_of (here work).0 stamp) grows ∙ map_more (here work).0 stamp work.out.entries act) in
    record {
      lawful = subst (λ (es : List Entry). IsLawful before es) (sym entries) (lawful_more (entries_so_far stamp work) before (entry_of (here work).0 stamp act) h.lawful is);
      holds = subst (λ (es : List Entry). Holds stamp (book_after before es) new.node) (sym entries)
          (subst (λ (b : BookValue). Holds stamp b new.node) (sym (after_more (entries_so_far stamp work) before (entry_of (here work).0 stamp act))) holds);
    }

-- what enters nothing and keeps what is held
pub kept_on : (stamp : ℕ) (before : BookValue) (work new : Work) → HoldsWork stamp before work → new.node.setting ≡ work.node.setting → new.out.entries ≡ work.out.entries
    → Holds stamp (book_at stamp before work) new.node → HoldsWork stamp before new
kept_on stamp before work new h same is holds =
    let entries : entries_so_far stamp new ≡ entries_so_far stamp work =
    ap (λ (n : ℕ). entries_of n stamp new.out.entries) (ap (λ s. s.node.0) same) ∙ ap (entries_of (here work).0 stamp) is in
    record {
      lawful = subst (λ (es : List Entry). IsLawful before es) (sym entries) h.lawful;
      holds = subst (λ (es : List Entry). Holds stamp (book_after before es) new.node) (sym entries) holds;
    }

-- the machine after a work with one more entry
pub book_now : (stamp : ℕ) (before : BookValue) (work new : Work) (act : Act) → new.node.setting ≡ work.node.setting → new.out.entries ≡ work.out.entries ++ act ∷ [] → book_at stamp before new ≡ book_with stamp before work act
book_now stamp before work new act same grows =
    ap (book_after before) (ap (λ (n : ℕ). entries_of n stamp new.out.entries) (ap (λ s. s.node.0) same) ∙ (ap (entries_of (here work).0 stamp) grows ∙ map_more (here work).0 stamp work.out.entries act))
    ∙ after_more (entries_so_far stamp work) before (entry_of (here work).0 stamp act)
