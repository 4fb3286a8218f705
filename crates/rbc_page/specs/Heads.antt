-- The head of an answer, line by line behind what stands.
use Rattle.std.specs.Prelude.{ℕ, Bool, true, false, List, ◌++◌, Option, Some, None, codes, decimal}
use Rattle.rbc_page.specs.declared.head.Status.{Status}
use Rattle.rbc_page.specs.declared.head.Status.TheVariants.{Content, NoContent, NotModified, BadRequest, NotFound, MethodNotAllowed, TooLong, Unavailable}
use Rattle.rbc_page.specs.declared.head.Kind.{Kind}
use Rattle.rbc_page.specs.declared.head.Kind.TheVariants.{Html, Plain, Numbers}
use Rattle.rbc_page.specs.declared.head.Head.{Head}

-- ---- words

abbrev pub status_word : Status → List ℕ
status_word Content = codes "200 OK"
status_word NoContent = codes "204 No Content"
status_word NotModified = codes "304 Not Modified"
status_word BadRequest = codes "400 Bad Request"
status_word NotFound = codes "404 Not Found"
status_word MethodNotAllowed = codes "405 Method Not Allowed"
status_word TooLong = codes "431 Request Header Fields Too Large"
status_word Unavailable = codes "503 Service Unavailable"

abbrev pub kind_word : Kind → List ℕ
kind_word Html = codes "text/html; charset=utf-8"
kind_word Plain = codes "text/plain; charset=utf-8"
kind_word Numbers = codes "text/plain; version=0.0.4; charset=utf-8"

-- whether a client may ask again
abbrev pub stay_word : Bool → List ℕ
stay_word true = codes "keep-alive"
stay_word false = codes "close"

-- ---- lines

-- the line of a field
unfoldable pub with_field : List ℕ → List ℕ → List ℕ → List ℕ
with_field text name value = (((text ++ name) ++ codes ": ") ++ value) ++ codes "\r\n"

-- the line of a field whose value is a tag: how the centre began, and a version, in quotes
unfoldable pub with_tag : List ℕ → List ℕ → List ℕ → ℕ → List ℕ
with_tag text name start version = (((((text ++ name) ++ codes ": \"") ++ start) ++ codes "-") ++ decimal version) ++ codes "\"\r\n"

-- the line of the status, which is the first
unfoldable pub with_status : List ℕ → Status → List ℕ
with_status text status = ((text ++ codes "HTTP/1.1 ") ++ status_word status) ++ codes "\r\n"

-- which methods there are, where another one was asked for
unfoldable pub with_methods : List ℕ → Status → List ℕ
with_methods text MethodNotAllowed = with_field text (codes "Allow") (codes "GET, HEAD")
with_methods text Content = text
with_methods text NoContent = text
with_methods text NotModified = text
with_methods text BadRequest = text
with_methods text NotFound = text
with_methods text TooLong = text
with_methods text Unavailable = text

-- what the body is, which is not to be guessed
unfoldable pub with_kind : List ℕ → Kind → List ℕ
with_kind text kind = with_field (with_field text (codes "Content-Type") (kind_word kind)) (codes "X-Content-Type-Options") (codes "nosniff")

-- how many bytes the body has, where there is one
unfoldable pub with_size : List ℕ → Option ℕ → List ℕ
with_size text None = text
with_size text (Some size) = with_field text (codes "Content-Length") (decimal size)

-- the tag of what is shown, by which it is asked for again: it is not to be kept unasked
unfoldable pub with_version : List ℕ → List ℕ → Option ℕ → List ℕ
with_version text start None = with_field text (codes "Cache-Control") (codes "no-store")
with_version text start (Some version) = with_tag (with_field text (codes "Cache-Control") (codes "no-cache")) (codes "ETag") start version

-- whether the client may ask again, and the line that ends the head
unfoldable pub with_end : List ℕ → Bool → List ℕ
with_end text stays = with_field text (codes "Connection") (stay_word stays) ++ codes "\r\n"

-- the head
unfoldable pub with_head : List ℕ → List ℕ → Head → List ℕ
with_head text start head =
    with_end (with_version (with_size (with_kind (with_methods (with_status text head.status) head.status) head.kind) head.size) start head.tag) head.stays
