-- Where a cursor stands.
use Rattle.byte_form.specs.declared.cursor.Cursor.{Cursor}
use Rattle.byte_form.specs.Places.{State}

abbrev pub state : Cursor → State
state c = record { at = c.at; rest = c.rest.now }
