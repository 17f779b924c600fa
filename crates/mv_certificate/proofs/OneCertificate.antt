-- No bytes are texts of two certificates of one module.
use Rattle.mv_certificate.proofs.Common.{[], ℕ, ◌++◌, ◌∙◌, ◌∷◌, ◌≡◌, ◌≤◌, List, None, Option, Some, ap, arith, flat_map, is_some, length, map, nat_le, refl, slice_get, sym, true}
use Rattle.mv_certificate.proofs.Common.{and_parts, leb-true, slice_get_within, some_pair_parts, list_all, option_map_or, FunctionDefinition, Module, ◌>>=◌, FunctionHandle, Token}
use Rattle.mv_certificate.proofs.Common.{local_count, blocks, Certificate, Stated, IsCertificateText, certificate_text, stated_text, stated_from, AllStatedFit, StatedFits}
use Rattle.std.proofs.lemmas.List.{length-append}
use Rattle.mv_module_text.specs.Fits.{signature_fits, token_fits}
use Rattle.mv_binary_format.specs.ModuleText.{HasText}
use Rattle.mv_binary_format.proofs.Fitting.{few_structs}
use Rattle.mv_certificate.proofs.Whole.{stated-whole, same_marks}
use Rattle.mv_edges.proofs.AsSets.{same_truth}
use Rattle.mv_bound_rules.proofs.Entries.{all_at, element_at}

-- a signature that is there is short
pub signature_short : (version : ℕ) (signatures : List (List Token)) (i : ℕ) (tokens : List Token) → list_all (signature_fits version) signatures ≡ true
    → slice_get signatures i ≡ Some tokens → length tokens ≤ 64
signature_short version signatures i tokens fits is =
    let one : signature_fits version tokens ≡ true = all_at (signature_fits version) signatures i tokens fits is in
    leb-true (length tokens) 64 (and_parts (nat_le (length tokens) 64) (list_all (token_fits version) tokens) one).0

-- so a function of a module that has a text has few locals
few_locals : (m : Module) (d : FunctionDefinition) → HasText m → local_count m d ≤ 65536
few_locals m d has = by_handle (slice_get m.function_handles d.handle)
  where
    short : (i : ℕ) (s : List Token) → slice_get m.signatures i ≡ Some s → length s ≤ 64
    short i s e = signature_short m.version m.signatures i s has.signatures e

    by_others : (parameters : List Token) → length parameters ≤ 64 → (o : Option (List Token)) → ((s : List Token) → o ≡ Some s → length s ≤ 64)
        → option_map_or length (o >>= λ others. Some (parameters ++ others)) 0 ≤ 65536
    by_others parameters le None each = omega arith
    by_others parameters le (Some others) each = omega (arith, le, each others refl, length-append parameters others)

    by_parameters : (o q : Option (List Token)) → ((s : List Token) → o ≡ Some s → length s ≤ 64) → ((s : List Token) → q ≡ Some s → length s ≤ 64)
        → option_map_or length (o >>= λ parameters. q >>= λ others. Some (parameters ++ others)) 0 ≤ 65536
    by_parameters None q each others = omega arith
    by_parameters (Some parameters) q each others = by_others parameters (each parameters refl) q others

    by_handle : (o : Option FunctionHandle)
        → option_map_or length (o >>= λ handle. slice_get m.signatures handle.parameters >>= λ parameters. slice_get m.signatures d.locals >>= λ others. Some (parameters ++ others)) 0 ≤ 65536
    by_handle None = omega arith
    by_handle (Some handle) = by_parameters (slice_get m.signatures handle.parameters) (slice_get m.signatures d.locals) (short handle.parameters) (short d.locals)

-- what fits one function has the same marks
pub one-marks : (m : Module) (d : FunctionDefinition) (ks ls : Stated) → StatedFits m d ks → StatedFits m d ls → map is_some ks ≡ map is_some ls
one-marks m d ks ls p q =
    same_marks is_some is_some ks ls (p.long ∙ sym q.long) (λ i k l ki li.
    let b = element_at (blocks d.code) i (omega (arith, slice_get_within ks i k ki, p.long)) in
    let r = p.marks i b.0 k b.1 ki in
    let s = q.marks i b.0 l b.1 li in
    same_truth (is_some k) (is_some l) (λ e. s.1 (r.0 e)) (λ e. r.1 (s.0 e)))

-- bytes begin with the text of one statement alone that fits the function
one-stated : (m : Module) (d : FunctionDefinition) → HasText m → (ks ls : Stated) (rest behind : List ℕ) → flat_map stated_text ks ++ rest ≡ flat_map stated_text ls ++ behind
    → StatedFits m d ks → StatedFits m d ls → (ks ≡ ls) × (rest ≡ behind)
one-stated m d has ks ls rest behind same p q =
    let few = few_structs m has in
    let small = few_locals m d has in
    some_pair_parts ks ls rest behind
    (sym (stated-whole m d few small rest ks p.fits) ∙ ap (stated_from m d (map is_some ks)) same
    ∙ ap (λ marks. stated_from m d marks (flat_map stated_text ls ++ behind)) (one-marks m d ks ls p q) ∙ stated-whole m d few small behind ls q.fits)

-- function by function
one-each : (m : Module) → HasText m → (ds : List FunctionDefinition) (cs es : Certificate) → certificate_text cs ≡ certificate_text es → AllStatedFit m ds cs → AllStatedFit m ds es → cs ≡ es
one-each m has [] [] [] same p q = refl
one-each m has [] [] (e ∷ es) same p q = absurd q
one-each m has [] (c ∷ cs) es same p q = absurd p
one-each m has (d ∷ ds) [] es same p q = absurd p
one-each m has (d ∷ ds) (c ∷ cs) [] same p q = absurd q
one-each m has (d ∷ ds) (c ∷ cs) (e ∷ es) same p q =
    let first = one-stated m d has c e (certificate_text cs) (certificate_text es) same p.0 q.0 in
    ap (λ x. x ∷ cs) first.0 ∙ ap (λ xs. e ∷ xs) (one-each m has ds cs es first.1 p.1 q.1)

-- the whole certificate
pub one-certificate : (m : Module) (bytes : List ℕ) (c d : Certificate) → HasText m → IsCertificateText m bytes c → IsCertificateText m bytes d → c ≡ d
one-certificate m bytes c d has p q = one-each m has m.functions c d (sym p.0 ∙ q.0) p.1 q.1
