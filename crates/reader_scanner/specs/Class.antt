use Rattle.std.specs.Prelude.{ℕ}
use Rattle.reader_scanner.specs.declared.token.Class.{Class}
use Rattle.reader_scanner.specs.declared.token.Class.TheVariants as class
use Rattle.reader_scanner.specs.declared.token.TokenValue.{TokenValue}
use Rattle.reader_scanner.specs.declared.token.TokenValue.TheVariants as value

-- the class of what a token says
abbrev pub class_of : TokenValue → Class
class_of value.Inval = class.Inval
class_of (value.Name text) = class.Name
class_of (value.String text) = class.String
class_of (value.Int number) = class.Int
class_of (value.Char byte) = class.Char

-- the number of a class in Oberon
abbrev pub class_number : Class → ℕ
class_number class.Inval = 0
class_number class.Name = 1
class_number class.String = 2
class_number class.Int = 3
class_number class.Char = 6
