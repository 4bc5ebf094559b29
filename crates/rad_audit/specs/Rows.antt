-- The row of a record (own), without its line feed: words with a tab between.
use Rattle.std.specs.Prelude.{ℕ, List, [], ◌∷◌, ◌++◌, codes, Option, Some, None, option_copied}
use Rattle.std.specs.Fmt.{decimal}
use Rattle.rad_packet.specs.Packet.{identifier_of}
use Rattle.rad_config.specs.Realm.{realm_of_packet}
use Rattle.rad_lane.specs.Session.{session_id}
use Rattle.ledger_rules.specs.declared.entry.Entry.{Entry}
use Rattle.ledger_rules.specs.declared.left.Left.{Left as TheLeft}
use Rattle.ledger_rules.specs.declared.line_request.LineRequest.{LineRequest}
use Rattle.ledger_lines.specs.Lines.{state_text}
use Rattle.rad_audit.specs.Printed.{run_text}
use Rattle.rad_audit.specs.Cells.{client_cell, value_cell, number_cell}
use Rattle.rad_audit.specs.Facts.{number_at, octets_at, value_at}
use Rattle.rad_audit.specs.declared.facts.Facts.{Facts}
use Rattle.rad_audit.specs.declared.printing.LinePlace.{LinePlace}
use Rattle.rad_audit.specs.declared.rows.RecordName.{RecordName}
use Rattle.rad_audit.specs.declared.rows.Row.{Row}
use Rattle.rad_audit.specs.declared.rows.State.{State}
use Rattle.rad_audit.specs.declared.rows.State.TheVariants.{Answered, Left as left_as}

-- Words with a tab between.
abbrev pub with_tabs : List (List ℕ) → List ℕ
with_tabs [] = []
with_tabs (word ∷ []) = word
with_tabs (word ∷ next ∷ rest) = word ++ 9 ∷ with_tabs (next ∷ rest)

-- Where the line of a record stands.
abbrev pub place_words : LinePlace → List (List ℕ)
place_words place = value_cell (Some place.file.now) ∷ decimal place.line ∷ []

-- What a line says of the request that it is about, and the serial of the response, if there is one.
abbrev pub name_of : LineRequest → Option ℕ → List (List ℕ)
name_of about serial =
    run_text about.run ∷ decimal about.lane ∷ number_cell serial ∷ decimal about.number ∷ value_cell (Some about.time.now)
    ∷ client_cell about.client ∷ decimal about.port ∷ []

-- What the packets of an entry say: the Identifier of the request, which the response has, the home server under whose secret they are
-- judged, the realm, the session, the user, the status, the octets received from the port and sent to it, and the seconds.
abbrev pub facts_of : Entry → List (List ℕ)
facts_of e =
    decimal (identifier_of e.response.now) ∷ value_cell (Some e.about.home.now) ∷ value_cell (realm_of_packet e.sent.now)
    ∷ value_cell (session_id e.sent.now) ∷ value_cell (value_at 1 e.sent.now) ∷ number_cell (number_at 40 e.sent.now)
    ∷ number_cell (octets_at 52 42 e.sent.now) ∷ number_cell (octets_at 53 43 e.sent.now) ∷ number_cell (number_at 46 e.sent.now) ∷ []

-- The words of an entry's row.
abbrev pub row_of : LinePlace → Entry → List (List ℕ)
row_of place e = place_words place ++ name_of e.about (Some e.serial) ++ facts_of e ++ codes "answered" ∷ []

-- The same of a request that was left, which has no serial.
abbrev pub facts_of_left : TheLeft → List (List ℕ)
facts_of_left l =
    decimal l.about.identifier ∷ value_cell (Some l.about.home.now) ∷ value_cell (realm_of_packet l.request.now)
    ∷ value_cell (session_id l.request.now) ∷ value_cell (value_at 1 l.request.now) ∷ number_cell (number_at 40 l.request.now)
    ∷ number_cell (octets_at 52 42 l.request.now) ∷ number_cell (octets_at 53 43 l.request.now) ∷ number_cell (number_at 46 l.request.now) ∷ []

abbrev pub row_of_left : LinePlace → TheLeft → List (List ℕ)
row_of_left place l = place_words place ++ name_of l.about None ++ facts_of_left l ++ state_text l.state ∷ []

-- The words of a row, by its parts.
abbrev pub name_words : RecordName → List (List ℕ)
name_words r =
    run_text r.run ∷ decimal r.lane ∷ number_cell r.serial ∷ decimal r.number ∷ value_cell (Some r.time.now)
    ∷ client_cell r.client ∷ decimal r.port ∷ []

abbrev pub facts_words : Facts → List (List ℕ)
facts_words f =
    decimal f.identifier ∷ value_cell (Some f.home.now) ∷ value_cell (option_copied f.realm) ∷ value_cell (option_copied f.session)
    ∷ value_cell (option_copied f.user) ∷ number_cell f.status ∷ number_cell f.input ∷ number_cell f.output ∷ number_cell f.seconds ∷ []

abbrev pub state_word : State → List ℕ
state_word Answered = codes "answered"
state_word (left_as state) = state_text state

abbrev pub words_of : Row → List (List ℕ)
words_of row = place_words row.place ++ name_words row.name ++ facts_words row.facts ++ state_word row.state ∷ []
