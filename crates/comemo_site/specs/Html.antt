-- What blocks, links and documents are as HTML, as bytes.
use Rattle.std.specs.Prelude.{ℕ, Bool, List, [], ◌∷◌, ◌++◌, ◌==◌, codes, if◌then◌else◌}
use Rattle.std.specs.List.{fold}
use Rattle.comemo_site.specs.Addresses.{begins, encoded, leads_out}
use Rattle.comemo_site.specs.declared.block.Plain.{Plain}
use Rattle.comemo_site.specs.declared.block.Plain.TheVariants.{Heading, Subheading, Paragraph, Outside, ListStart, Item, ListEnd}

-- a byte of a text
abbrev pub escape : ℕ → List ℕ
escape byte =
    if byte == 38 then codes "&amp;"
    else if byte == 60 then codes "&lt;"
    else if byte == 62 then codes "&gt;"
    else if byte == 34 then codes "&quot;"
    else byte ∷ []

-- a text
abbrev pub escaped : List ℕ → List ℕ
escaped text = fold (λ all byte. all ++ escape byte) [] text

-- an element of this name
abbrev pub element : List ℕ → List ℕ → List ℕ
element name inner = codes "<" ++ name ++ codes ">" ++ inner ++ codes "</" ++ name ++ codes ">\n"

-- a link to the page of a name, which prints a title; the title alone if the name leads out of the site
abbrev pub anchor_html : List ℕ → List ℕ → List ℕ
anchor_html title name =
    if leads_out name then escaped title
    else codes "<a href=\"" ++ encoded name ++ codes ".html\">" ++ escaped title ++ codes "</a>"

-- a link to an address, which prints it
abbrev pub outside_html : List ℕ → List ℕ
outside_html address = codes "<a href=\"" ++ escaped address ++ codes "\">" ++ escaped address ++ codes "</a>"

-- a block that prints the same whatever the site is
abbrev pub plain_html : Plain → List ℕ
plain_html (Heading words) = element (codes "h1") (escaped words)
plain_html (Subheading words) = element (codes "h2") (escaped words)
plain_html (Paragraph words) = element (codes "p") (escaped words)
plain_html (Outside address) = element (codes "p") (outside_html address)
plain_html ListStart = codes "<ul>\n"
plain_html (Item words) = element (codes "li") (escaped words)
plain_html ListEnd = codes "</ul>\n"

-- the way out of a folder, at the byte that ends its name
abbrev pub upward : ℕ → List ℕ
upward byte = if byte == 47 then codes "../" else []

-- the way from the folder of a page to that of the site
abbrev pub upwards : List ℕ → List ℕ
upwards name = fold (λ all byte. all ++ upward byte) [] name

-- the first lines of each document, by which it is known
abbrev pub mark : List ℕ
mark = codes "<!DOCTYPE html>\n<!-- Made by site -->\n"

-- bytes begin as a document does
abbrev pub is_marked : List ℕ → Bool
is_marked bytes = begins mark bytes

-- a document up to the way to the folder of its site
abbrev pub head_html : List ℕ
head_html = codes "<!DOCTYPE html>\n<!-- Made by site -->\n<html lang=\"en\">\n<head>\n<meta charset=\"utf-8\">\n<meta name=\"viewport\" content=\"width=device-width, initial-scale=1\">\n<style>\n:root { color-scheme: light dark; }\nbody { max-width: 42rem; margin: auto; padding: 1rem; font-family: system-ui, sans-serif; line-height: 1.5; overflow-wrap: break-word; }\n</style>\n<base href=\"./"

-- the document of a page
abbrev pub document_html : List ℕ → List ℕ → List ℕ → List ℕ
document_html title name body =
    head_html ++ upwards name
    ++ codes "\">\n<title>" ++ escaped title
    ++ codes "</title>\n</head>\n<body>\n<main>\n" ++ body
    ++ codes "</main>\n</body>\n</html>\n"
