pub mod OrderOf
