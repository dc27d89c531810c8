-- The body of a page, piece by piece.
use Rattle.std.proofs.Common.{◌≡◌, ℕ, List, [], ◌∷◌, ◌++◌, refl, ◌∙◌, ap, append_assoc, false, codes}
use Rattle.lrs_json.specs.Json.{Elements, array, object, string}
use Rattle.lrs_json.specs.View.{members_of}
use Rattle.lrs_json.specs.Written.{elements_text, escaped, quoted, written}
use Rattle.xapi_search.specs.XapiQueryQueryQuery.{Query}
use Rattle.xapi_search.specs.XapiStatementStored.{StoredStatement}
use Rattle.xapi_pages.specs.Listings.{Page, items_text, more_text, page_body}

regroup : (a e m q z : List ℕ) → a ++ e ++ m ++ q ++ z ≡ a ++ (e ++ (m ++ (q ++ z)))
regroup a e m q z = simp append_assoc refl

whole : (items : Elements) (more : List ℕ)
    → codes "{\"statements\":[" ++ elements_text false items ++ codes ",\"more\":" ++ quoted more ++ 125 ∷ []
    ≡ written (object (members_of ((codes "statements", array items) ∷ (codes "more", string more) ∷ [])))
unfolding escaped
whole items more = regroup (codes "{\"statements\":[") (elements_text false items) (codes ",\"more\":") (quoted more) (125 ∷ [])

pub page_is : (query : Query) (n : ℕ) (held : List StoredStatement) (p : Page) (a b c d e : List ℕ)
    → a ≡ codes "{\"statements\":[" → b ≡ a ++ items_text query.format held false p.positions → c ≡ b ++ codes ",\"more\":"
    → d ≡ c ++ quoted (more_text query n p.link) → e ≡ d ++ 125 ∷ [] → e ≡ page_body query n held p
page_is query n held p a b c d e begins items named linked ends =
    ends ∙ ap (λ x. x ++ 125 ∷ []) (linked ∙ ap (λ x. x ++ quoted (more_text query n p.link)) (named ∙ ap (λ x. x ++ codes ",\"more\":")
    (items ∙ ap (λ x. x ++ items_text query.format held false p.positions) begins)))
    ∙ whole _ (more_text query n p.link)
