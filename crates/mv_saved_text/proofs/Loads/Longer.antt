-- What is known of each text that begins with some bytes and has more.
use Rattle.mv_saved_text.proofs.Common.{[], ◌++◌, ◌∙◌, ◌∷◌, ◌≡◌, Err, List, None, Ok, Option, Result, Some, ap, append_assoc, length, subst, sym, ℕ, IfOk, FlatStorage, body_from, IfSome, AreBytes, Offer, HasHead, no_links, no_module, AreNotJoined, EachBodyIsRead, IsNoBody}
use Rattle.mv_saved_text.proofs.Common.{SavedHead, head_from, PublishedModule, AllPass, Form, head_text, IsTalliedStore, Tally, all_of, tables_in, Link, BadModule}
use Rattle.mv_saved_text.specs.Loading.{LongerFail, load_number}
use Rattle.mv_saved_text.specs.declared.loading.LoadError.{LoadError}
use Rattle.mv_saved_text.specs.declared.loading.LoadError.TheVariants.{Memory}
use Rattle.mv_saved_text.proofs.Loads.LoadedHead.{head-parts, head-whole, head-had}
use Rattle.mv_saved_text.proofs.Loads.Loaded.{without-body}
use Rattle.mv_saved_text.proofs.Loads.Unreading.{left-over}
use Rattle.mv_saved_text.specs.Parts.LoadedParts.{IsUnreadBody}
use Rattle.mv_ledger_state.specs.declared.unread.Unread.{Unread}
use Rattle.mv_ledger_state.specs.declared.unread.Unread.TheVariants.{Malformed}

-- they have the same head
has-longer : (bytes more : List ℕ) (form : Form) (runs : ℕ) (offers : List Offer) → HasHead bytes form runs offers → HasHead (bytes ++ more) form runs offers
has-longer bytes more form runs offers has = record {
  rest = has.rest ++ more;
  text = ap (λ z. z ++ more) has.text ∙ append_assoc (head_text form runs offers) has.rest more;
  fits = has.fits;
}

module _ (bytes : List ℕ) (head : SavedHead) (rest : List ℕ) (are : AreBytes bytes) (begins : head_from bytes ≡ Some (head, rest)) where
  longer-has : (more : List ℕ) → HasHead (bytes ++ more) head.form head.runs head.offers
  longer-has more = has-longer bytes more head.form head.runs head.offers (head-had bytes rest head are begins)

  longer-begins : (more : List ℕ) → head_from (bytes ++ more) ≡ Some (head, rest ++ more)
  longer-begins more =
      let p = head-parts bytes rest head are begins in
      ap (λ z. head_from (z ++ more)) p.0.text ∙ ap head_from (append_assoc (head_text head.form head.runs head.offers) rest more)
      ∙ head-whole head.form (rest ++ more) head.runs head.offers p.1

  -- their modules are none of a ledger
  pub longer-joined : (e : LoadError) → AreNotJoined head.offers e → IfSome (load_number e) (LongerFail bytes)
  longer-joined BadModule refused = λ byte more. no_module head.form head.runs head.offers refused.0 (longer-has (byte ∷ more)) refused.1
  longer-joined Link refused = λ byte more. no_links head.form head.runs head.offers refused.0 (longer-has (byte ∷ more)) refused.1 refused.2
  longer-joined Memory refused = tt
  longer-joined _ refused = absurd refused

  -- what follows the modules is none of a ledger with them
  pub longer-body : (ps : List PublishedModule) (tss : List (List Tally)) → AllPass head.offers ps → IsTalliedStore ps tss → EachBodyIsRead
      → ((byte : ℕ) (more : List ℕ) → IsNoBody head.form (tables_in ps) (length (all_of tss)) (rest ++ byte ∷ more)) → LongerFail bytes 4
  longer-body ps tss every held reads none = λ byte more.
      without-body (bytes ++ byte ∷ more) head (rest ++ byte ∷ more) (longer-begins (byte ∷ more)) (longer-has (byte ∷ more)) ps tss every held reads (none byte more)

  module _ (ps : List PublishedModule) (tss : List (List Tally)) (every : AllPass head.offers ps) (held : IsTalliedStore ps tss) (reads : EachBodyIsRead) where
    -- where it is read to its end, each longer text has more
    pub longer-read : (body : List (ℕ × ℕ) × FlatStorage) → body_from head.form (tables_in ps) (length (all_of tss)) rest ≡ Some (body, []) → LongerFail bytes 4
    longer-read body is =
        longer-body ps tss every held reads (λ byte more. left-over head.form (tables_in ps) (length (all_of tss)) rest [] body is (byte ∷ more) (λ none. absurd cc))

    -- and where it is malformed, it is so in each
    pub longer-malformed : (e : Unread) → e ≡ Malformed → IsUnreadBody head.form (tables_in ps) (length (all_of tss)) rest e → LongerFail bytes 4
    longer-malformed e is none =
        longer-body ps tss every held reads (λ byte more. subst (IsUnreadBody head.form (tables_in ps) (length (all_of tss)) rest) is none (byte ∷ more))

    pub longer-found : {E : Type 0} (r : Result (Option ℕ) E) (e : Unread) → IfOk r (λ found. IfSome found (λ number. (number ≡ 4) × (e ≡ Malformed)))
        → IsUnreadBody head.form (tables_in ps) (length (all_of tss)) rest e → IfOk r (λ found. IfSome found (LongerFail bytes))
    longer-found (Err x) e found none = tt
    longer-found (Ok None) e found none = tt
    longer-found (Ok (Some number)) e found none = subst (LongerFail bytes) (sym found.0) (longer-malformed e found.1 none)
